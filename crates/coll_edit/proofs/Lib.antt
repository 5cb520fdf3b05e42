pub mod AskedLemmas
pub mod EditLemmas
mod OwnReplyLemmas
pub mod PutLemmas
pub mod SignLemmas
