use Rattle.std.proofs.Common.{inl, inr}
use Rattle.config_checks.proofs.WordLemmas.{no_first}
use Rattle.config_checks.proofs.reason.respelled_word.Goals as goal

pub respelled_by_form-requires : goal.respelled_by_form-requires
respelled_by_form-requires c = elim c.requires [
  | inl word ↦ absurd (no_first _ _ c.in-None.ensures word.0 word.1)
  | inr other ↦ other
]
