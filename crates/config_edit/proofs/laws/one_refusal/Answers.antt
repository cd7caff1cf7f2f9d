use Rattle.std.proofs.Common.{Some, None}
use Rattle.config_edit.specs.Edit.{HasSeveral, HasNone, HasNoneAt, Never}
use Rattle.config_edit.proofs.Refused.{changes_refused_once, refused_once, none_of_several}
use Rattle.config_edit.proofs.SectionLaws.{one_renaming_refusal, one_removal_refusal}
use Rattle.config_edit.proofs.laws.one_refusal.Goals as goal

pub returns-clause-set : goal.returns-clause-set
returns-clause-set c = λ name value text.
    refused_once HasSeveral Never name text (Some value) (λ key contents several never. never)

pub returns-clause-added : goal.returns-clause-added
returns-clause-added c = λ name value text.
    refused_once Never Never name text (Some value) (λ key contents several never. never)

pub returns-clause-unset : goal.returns-clause-unset
returns-clause-unset c = λ name text. refused_once HasSeveral HasNone name text None none_of_several

pub returns-clause-each : goal.returns-clause-each
returns-clause-each c = λ places name text.
    refused_once Never (HasNoneAt places) name text None (λ key contents several none. several)

pub returns-clause-changed : goal.returns-clause-changed
returns-clause-changed c = changes_refused_once

pub returns-clause-renaming : goal.returns-clause-renaming
returns-clause-renaming c = one_renaming_refusal

pub returns-clause-removal : goal.returns-clause-removal
returns-clause-removal c = one_removal_refusal
