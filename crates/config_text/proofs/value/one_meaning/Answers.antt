use Rattle.std.proofs.Common.{List, ℕ, sym, subst}
use Rattle.config_text.specs.Value.{HasMeaning}
use Rattle.config_text.specs.Laws.Value.{means_shown}
use Rattle.config_text.proofs.value.one_meaning.Goals as goal

pub returns-clause-unchanged : goal.returns-clause-unchanged
returns-clause-unchanged g c s p =
    let laws = g.met.V.Value in
    let found = laws.canonical_reads s p in
    let means = means_shown laws.one_value laws.one_text laws.shown_is_text s found.0 found.1 in (
      found.0,
      subst (λ (t : List ℕ). HasMeaning g.V.Value.grammar g.V.Value.canonical s found.0 t)
          (sym (means.only_text s p found.1)) means,
    )
