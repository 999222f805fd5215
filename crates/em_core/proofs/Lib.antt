mod CopyLemmas
pub mod ChildLemmas
pub mod TypeLemmas
pub mod ImplLemmas
pub mod GivesLemmas
pub mod PartLemmas
pub mod SlotLemmas
pub mod ListLemmas
