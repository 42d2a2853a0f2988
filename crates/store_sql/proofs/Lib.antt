mod CatalogLemmas
pub mod PartLemmas
pub mod ValueLemmas
pub mod QueryLemmas
pub mod RowLemmas
pub mod InsertLemmas
pub mod RowidLemmas
pub mod EditLemmas
pub mod LayoutLemmas
pub mod BesideLemmas
mod LaterLemmas
pub mod ContentLemmas
pub mod WriteLemmas
pub mod TableLemmas
pub mod StopLemmas
pub mod CommitLemmas
pub mod ReadLemmas
pub mod CountLemmas
pub mod ItemLemmas
pub mod StreamLemmas
