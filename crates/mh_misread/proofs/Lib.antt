mod PieceLemmas
mod ResumeLemmas
