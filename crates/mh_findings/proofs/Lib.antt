mod LineLemmas
mod AnnotationLemmas
mod JsonLemmas
