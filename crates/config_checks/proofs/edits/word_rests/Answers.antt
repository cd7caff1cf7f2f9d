use Rattle.std.proofs.Common.{sym, ◌∙◌}
use Rattle.std.proofs.lemmas.List.{take_rest, drop-map}
use Rattle.std.specs.Char.{to_ascii_lowercase}
use Rattle.config_checks.specs.Nearest.{lower}
use Rattle.config_checks.proofs.NearestLemmas.{rests_of}
use Rattle.config_checks.proofs.LackLemmas.{common_lower}
use Rattle.config_checks.proofs.edits.word_rests.Goals as goal

pub returns : goal.returns
returns c =
    let a = c.args.a.now in
    let b = c.args.b.now in
    let count = c.common_word-count.result in
    rw (
      take_rest a count,
      take_rest b count,
      sym (drop-map to_ascii_lowercase count a),
      sym (drop-map to_ascii_lowercase count b),
      c.common_word-count.ensures.count ∙ sym (common_lower a b),
    ) (rests_of (lower a) (lower b))
