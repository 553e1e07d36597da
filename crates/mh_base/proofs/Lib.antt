pub mod PathLemmas
pub mod FolderLemmas
pub mod ReadingLemmas
