use Rattle.std.proofs.Common.{◌≡◌, Some, length, refl, sym, ◌∙◌, rules}
use Rattle.std.proofs.lemmas.Bool.{true≢false}
use Rattle.std.proofs.lemmas.Option.{slice_get_read, slice_get_past}
use Rattle.config_checks.specs.Rows.{rows_of}
use Rattle.config_checks.proofs.EntryMends.{no_entry, nothing_mends, made_one, made_none}
use Rattle.config_checks.proofs.mending.mend_of.Goals as goal

pub returns-in_default-get-clause-change : goal.returns-in_default-get-clause-change
returns-in_default-get-clause-change c settings are =
    let about : c.args.proposal.now.finding.entry ≡ Some c.in-Some.before = search rules in
    let past = rw c.deref.ensures.value at c.in_default-get.ensures.lookup in
    let none = slice_get_past c.args.read.now.entries.items c.in-Some.before past.3 in
    no_entry c.args.read.now settings are c.in-Some.before (rows_of c.args.judge.now.runs.items) c.args.options.now
    c.args.guesses c.args.proposal.now about none

pub returns-in_default-2-clause-change : goal.returns-in_default-2-clause-change
returns-in_default-2-clause-change c settings are =
    let about : c.args.proposal.now.finding.entry ≡ Some c.in-Some.before = search rules in
    let here = rw c.deref.ensures.value at c.in-Some-get.ensures.lookup in
    let entries = c.args.read.now.entries.items in
    let stands = slice_get_read entries (length entries) c.in-Some.before c.in-Some-get.found.now refl here.3.0
    here.1 in
    let none = rw c.in_default-2.is at c.in_ok-fix.ensures.change in
    nothing_mends c.args.read.now settings are c.in-Some.before (rows_of c.args.judge.now.runs.items) c.args.options.now
    c.args.guesses c.args.proposal.now about c.in-Some-get.found.now stands c.in_ok-setting.setting
    c.in_ok-setting.ensures none

pub returns-then-is_wanted-clause-change : goal.returns-then-is_wanted-clause-change
returns-then-is_wanted-clause-change c settings are =
    let about : c.args.proposal.now.finding.entry ≡ Some c.in-Some.before = search rules in
    let here = rw c.deref.ensures.value at c.in-Some-get.ensures.lookup in
    let entries = c.args.read.now.entries.items in
    let stands = slice_get_read entries (length entries) c.in-Some.before c.in-Some-get.found.now refl here.3.0
    here.1 in
    let made = rw c.in-Some-2.is at c.in_ok-fix.ensures.change in
    made_one c.args.read.now settings are c.in-Some.before (rows_of c.args.judge.now.runs.items) c.args.options.now
    c.args.guesses c.args.proposal.now about c.in-Some-get.found.now stands c.in_ok-setting.setting
    c.in_ok-setting.ensures c.in-Some-2.fix c.in-Some-2.safety c.safety_of-safety.result made.0 made.1
    c.safety_of-safety.ensures (c.is_wanted.ensures.0 c.if-is_wanted.true)

pub returns-clause-change : goal.returns-clause-change
returns-clause-change c settings are =
    let about : c.args.proposal.now.finding.entry ≡ Some c.in-Some.before = search rules in
    let here = rw c.deref.ensures.value at c.in-Some-get.ensures.lookup in
    let entries = c.args.read.now.entries.items in
    let stands = slice_get_read entries (length entries) c.in-Some.before c.in-Some-get.found.now refl here.3.0
    here.1 in
    let made = rw c.in-Some-2.is at c.in_ok-fix.ensures.change in
    made_none c.args.read.now settings are c.in-Some.before (rows_of c.args.judge.now.runs.items) c.args.options.now
    c.args.guesses c.args.proposal.now about c.in-Some-get.found.now stands c.in_ok-setting.setting
    c.in_ok-setting.ensures c.in-Some-2.fix c.in-Some-2.safety c.safety_of-safety.result made.0 made.1
    c.safety_of-safety.ensures (λ wanted. true≢false (sym (c.is_wanted.ensures.1 wanted) ∙ c.if-is_wanted.false))
