mod LineLemmas
mod GivenLemmas
mod ChoiceLemmas
mod TypeLemmas
mod KeyLemmas
