use Rattle.std.proofs.Common.{rules, Some}
use Rattle.config_checks.proofs.EachSetting.{read_settings, refused_settings}
use Rattle.config_checks.proofs.MendLemmas.{are_clean, refuses}
use Rattle.config_checks.proofs.mending.mend_text.Goals as goal

pub returns : goal.returns
returns c =
    let (settings, of_file, are) = read_settings c.args.alloc c.args.file.now c.args.text.now c.in_ok-read.read (search rules)
    (rw c.in_default.is at c.in_ok-read.ensures) in
    let have = rw (c.in_ok-judge.ensures) at (c.in_ok-mends.ensures settings are) in
    let why = rw (c.deref-2.ensures.value, c.in_ok-changes.ensures, c.deref.ensures.value) at c.in-Err.ensures in
    refuses c.args.rows.now c.args.options.now c.args.guesses c.args.file.now c.args.text.now settings
    c.args.proposals.now c.in_ok-mends.mends.items of_file have _ why

pub returns-in-Ok : goal.returns-in-Ok
returns-in-Ok c =
    let (settings, of_file, are) = read_settings c.args.alloc c.args.file.now c.args.text.now c.in_ok-read.read (search rules)
    (rw c.in_default.is at c.in_ok-read.ensures) in
    let have = rw (c.in_ok-judge.ensures) at (c.in_ok-mends.ensures settings are) in
    let made = rw (c.deref-2.ensures.value, c.in_ok-changes.ensures, c.deref.ensures.value) at c.in-Ok.ensures in
    record {
      settings = settings;
      of_file = of_file;
      have = have;
      made = made;
      clean = λ now is. are_clean c.args.rows.now c.args.options.now c.args.guesses c.args.file.now c.args.text.now _
          settings now c.args.proposals.now c.in_ok-mends.mends.items of_file have made is;
    }

pub returns-in-Some : goal.returns-in-Some
returns-in-Some c =
    refused_settings c.args.alloc c.args.file.now c.args.text.now c.in_ok-read.read (search rules) (Some c.in-Some.error)
    (rw c.in-Some.is at c.in_ok-read.ensures)
