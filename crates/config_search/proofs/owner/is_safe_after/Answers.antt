use Rattle.std.proofs.lemmas.Bool.Decides.{not_from_Decides}
use Rattle.config_file.specs.KeyView.{key_of}
use Rattle.config_search.proofs.Covers.{yes}
use Rattle.config_search.proofs.Trusted.{after_kept, after_named}
use Rattle.config_search.proofs.owner.is_safe_after.Goals as goal

pub returns-then-stays_safe-clause-safe : goal.returns-then-stays_safe-clause-safe
returns-then-stays_safe-clause-safe c = λ text listed system agrees. yes (after_kept system c.args.start.now
    c.args.folder.now (key_of c.args.key.now) c.args.setting.now c.args.was_safe
    (rw c.text_of-value.ensures at c.stays_safe.ensures.0 c.if-stays_safe.true))

pub returns-clause-safe : goal.returns-clause-safe
returns-clause-safe c = λ text listed system agrees. after_named system c.args.start.now c.args.folder.now
    (key_of c.args.key.now) c.args.setting.now c.args.was_safe c.in_ok-names_folder.field-0
    ((c.is_of.ensures text listed).0 c.if-not-is_of.false)
    (not_from_Decides c.stays_safe.result (rw c.text_of-value.ensures at c.stays_safe.ensures) c.if-stays_safe.false)
    (rw c.text_of-value.ensures at c.in_ok-names_folder.ensures system agrees)
