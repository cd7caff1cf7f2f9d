use Rattle.std.proofs.Common.{◌∙◌, map}
use Rattle.config_file.specs.KeyView.{key_of}
use Rattle.config_edit.specs.Edit.{content}
use Rattle.config_edit.proofs.Edits.{body_ends}
use Rattle.config_edit.proofs.SectionEdits.{section_removed, lacks, lacks_any}
use Rattle.config_edit.proofs.remove_section.Goals as goal

pub returns-in_default : goal.returns-in_default
returns-in_default c =
    let (entries, is_file) = c.in_ok-check_file.ensures in
    lacks_any c.args.name.now entries is_file
    (c.as_slice.ensures.value ∙ c.in_ok-key_text.ensures) c.in_default.ensures

pub returns-in-Some : goal.returns-in-Some
returns-in-Some c =
    let split = c.split_mark.ensures in
    let (entries, is_file) = c.in_ok-check_file.ensures in
    let names = rw (c.as_slice.ensures.value ∙ c.in_ok-key_text.ensures) at c.in-Ok.ensures in
    let (parts, cuts, (found, clears)) = rw c.in-Some.is at (c.in_ok-new.ensures (map content entries) (body_ends is_file split)) in
    section_removed c.args.name.now
    (key_of c.in-Ok.key) split names cuts found clears c.in_ok-marked-in-Some.ensures

pub returns : goal.returns
returns c =
    let split = c.split_mark.ensures in
    let (entries, is_file) = c.in_ok-check_file.ensures in
    let names = rw (c.as_slice.ensures.value ∙ c.in_ok-key_text.ensures) at c.in-Ok.ensures in
    let (parts, cuts, none) = rw c.in-None.is at (c.in_ok-new.ensures (map content entries) (body_ends is_file split)) in
    lacks c.args.name.now (key_of c.in-Ok.key) split names cuts none
