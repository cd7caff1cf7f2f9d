use Rattle.std.proofs.Common.{arith, rules, sym}
use Rattle.std.proofs.lemmas.List.{take_all}
use Rattle.config_text.specs.SameWord.{SameWord}
use Rattle.config_file.specs.KeyView.{key_of}
use Rattle.config_checks.specs.Keys.{Covers}
use Rattle.config_checks.proofs.RunLemmas.{other_section, all_more, covering_in, none_covering}
use Rattle.config_checks.proofs.lookup.row_from.Goals as goal

pub runs-init : goal.runs-init
runs-init c = (c.requires.within, none_covering (key_of c.args.key.now) _ c.requires.lacks)

pub runs-preserved-then-not-is_same_word : goal.runs-preserved-then-not-is_same_word
runs-preserved-then-not-is_same_word c =
    let other : ¬ (SameWord c.index-runs-at.result.section.now (key_of c.args.key.now).section) = search rules in (
      omega (arith, c.runs-test.true),
      all_more (λ row. ¬ (Covers (key_of row.key) (key_of c.args.key.now))) c.args.runs.now c.runs.at
          c.index-runs-at.result c.runs-test.true (sym c.index-runs-at.is) c.runs.invariant.1
          (other_section (key_of c.args.key.now) c.index-runs-at.result other),
    )

pub returns-in-Some : goal.returns-in-Some
returns-in-Some c = covering_in (key_of c.args.key.now) c.args.runs.now c.runs.at c.index-runs-at.result c.in-Some.row.now
    c.runs-test.true (sym c.index-runs-at.is) c.runs.invariant.1 c.in-Some.ensures

pub runs-preserved : goal.runs-preserved
runs-preserved c = (
  omega (arith, c.runs-test.true),
  all_more (λ row. ¬ (Covers (key_of row.key) (key_of c.args.key.now))) c.args.runs.now c.runs.at
      c.index-runs-at.result c.runs-test.true (sym c.index-runs-at.is) c.runs.invariant.1 c.in_default.ensures,
)

pub returns : goal.returns
returns c =
    rw (take_all c.runs.at c.args.runs.now (omega (arith, c.runs-test.false))) at c.runs.invariant.1
