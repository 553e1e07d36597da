pub mod CountingLemmas
pub mod DirectoryLemmas
pub mod SpanLemmas
