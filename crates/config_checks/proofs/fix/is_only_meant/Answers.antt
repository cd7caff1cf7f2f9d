use Rattle.std.proofs.Common.{◌≡◌, ◌↔◌, IsTrue, None, Some, rules, refl, reverse}
use Rattle.config_checks.specs.Reasons.{IsMeant}
use Rattle.config_checks.proofs.FixLemmas.{only_last, only_none}
use Rattle.config_checks.proofs.fix.is_only_meant.Goals as goal

pub returns-in-Some : goal.returns-in-Some
returns-in-Some c =
    let list = c.in-Word-Some.list in
    let words : c.deref-2.result.now ≡ reverse list.words.items = search rules in
    let same : IsTrue c.eq.result ↔ (c.in-Some.last.now ≡ c.args.word.now) = search rules in
    let meant : IsMeant c.deref-2.result.now c.in-Word-Some.value.now (Some c.in-Some.last) = search rules in
    rw (c.in-Word-Some.is-0, c.in-Word-Some.is-1)
    (only_last list c.in-Word-Some.value.now c.args.word.now c.deref-2.result.now words c.in-Some.last c.eq.result meant same)

pub returns : goal.returns
returns c =
    let list = c.in-Word-Some.list in
    let words : c.deref-2.result.now ≡ reverse list.words.items = search rules in
    let far : IsMeant c.deref-2.result.now c.in-Word-Some.value.now None = search rules in (
      λ yes. rw (c.in-Word-Some.is-0, c.in-Word-Some.is-1)
          (only_none list c.in-Word-Some.value.now c.args.word.now c.deref-2.result.now words far),
      λ only. refl,
    )
