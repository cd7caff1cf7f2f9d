use Rattle.std.proofs.Common.{◌≡◌, ◌∙◌, sym}
use Rattle.std.proofs.lemmas.Bool.{false≢true}
use Rattle.config_text.specs.SameWord.{SameWord}
use Rattle.config_file.proofs.OneKey.{cut_same}
use Rattle.config_checks.proofs.fix.other_name.Goals as goal

pub returns-else-is_beside : goal.returns-else-is_beside
returns-else-is_beside c = λ name renamed.
    let from = cut_same renamed.is c.in_ok-key.ensures in
    let to = cut_same renamed.becomes c.in_ok-other.ensures in
    let beside : SameWord renamed.from.section renamed.to.section × (renamed.from.subsection ≡ renamed.to.subsection) =
    (renamed.section, renamed.subsection) in
    false≢true (sym c.if-is_beside.false ∙ c.is_beside.ensures.1 (rw (from, to) at beside))
