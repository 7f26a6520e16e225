mod PutLemmas
mod Index
