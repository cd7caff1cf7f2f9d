use Rattle.std.proofs.Common.{rules, ◌∙◌, map, IfErr, IfOk}
use Rattle.std.proofs.lemmas.Result.{IfErr-weaker, MatchResult-from_both}
use Rattle.config_edit.specs.Reading.{RefusesText}
use Rattle.config_edit.specs.Sections.{RenamesSection}
use Rattle.config_file.specs.KeyView.{key_of}
use Rattle.config_edit.specs.Edit.{content}
use Rattle.config_edit.proofs.Edits.{body_ends}
use Rattle.config_edit.proofs.SectionEdits.{no_file_renamed, same_name, section_renamed, lacks, lacks_any}
use Rattle.config_edit.proofs.SectionEdits.{lacks_header, has_header}
use Rattle.config_edit.proofs.rename_section.Goals as goal

pub returns-in_default : goal.returns-in_default
returns-in_default c =
    lacks_header c.args.new.now c.in_default.field-0
    (c.as_slice.ensures.value ∙ c.in_ok-new_key.ensures) c.in_default.ensures

pub returns-in_err-check_file : goal.returns-in_err-check_file
returns-in_err-check_file c =
    let names_now = rw (c.as_slice.ensures.value ∙ c.in_ok-new_key.ensures) at c.in-Ok.ensures.0 in
    let has = has_header c.args.new.now (key_of c.in-Ok.to) names_now c.in-Ok.ensures.1 in
    let result = c.from_residual-in_err-check_file.result in
    let refused : IfErr result (RefusesText c.args.text.now) = search rules in
    let none : IfOk result (λ edited. RenamesSection c.args.old.now c.args.new.now c.args.text.now edited.items) = search rules in
    MatchResult-from_both result _ _ none (IfErr-weaker result _ _
    (λ e is. no_file_renamed c.args.old.now c.args.new.now c.args.text.now e has is) refused)

pub returns-in_default-parse : goal.returns-in_default-parse
returns-in_default-parse c =
    let (entries, is_file) = c.in_ok-check_file.ensures in
    let names_now = rw (c.as_slice.ensures.value ∙ c.in_ok-new_key.ensures) at c.in-Ok.ensures.0 in (
      has_header c.args.new.now (key_of c.in-Ok.to) names_now c.in-Ok.ensures.1,
      lacks_any c.args.old.now entries is_file
          (c.as_slice-2.ensures.value ∙ c.in_ok-old_key.ensures) c.in_default-parse.ensures,
    )

pub returns-in-Some : goal.returns-in-Some
returns-in-Some c =
    let (entries, is_file) = c.in_ok-check_file.ensures in
    let split = c.split_mark.ensures in
    let names = rw (c.as_slice-2.ensures.value ∙ c.in_ok-old_key.ensures) at c.in-Ok-parse.ensures in
    let (parts, cuts, (found, renames)) = rw c.in-Some.is at (c.in_ok-renamed.ensures (map content entries) (body_ends is_file split)) in
    same_name (key_of c.in-Ok-parse.from) split names cuts found (search rules) c.in_ok-copied-in-Some.ensures

pub returns-in-Some-2 : goal.returns-in-Some-2
returns-in-Some-2 c =
    let (entries, is_file) = c.in_ok-check_file.ensures in
    let split = c.split_mark.ensures in
    let names = rw (c.as_slice-2.ensures.value ∙ c.in_ok-old_key.ensures) at c.in-Ok-parse.ensures in
    let names_now = rw (c.as_slice.ensures.value ∙ c.in_ok-new_key.ensures) at c.in-Ok.ensures.0 in
    let (parts, cuts, (found, renames)) = rw c.in-Some.is at (c.in_ok-renamed.ensures (map content entries) (body_ends is_file split)) in
    section_renamed (key_of c.in-Ok-parse.from)
    (key_of c.in-Ok.to) split names names_now c.in-Ok.ensures.1 cuts found renames
    (search rules) c.in_ok-marked-in-Some-2.ensures

pub returns : goal.returns
returns c =
    let (entries, is_file) = c.in_ok-check_file.ensures in
    let split = c.split_mark.ensures in
    let names = rw (c.as_slice-2.ensures.value ∙ c.in_ok-old_key.ensures) at c.in-Ok-parse.ensures in
    let names_now = rw (c.as_slice.ensures.value ∙ c.in_ok-new_key.ensures) at c.in-Ok.ensures.0 in
    let (parts, cuts, none) = rw c.in-None.is at (c.in_ok-renamed.ensures (map content entries) (body_ends is_file split)) in (
      has_header c.args.new.now (key_of c.in-Ok.to) names_now c.in-Ok.ensures.1,
      lacks c.args.old.now (key_of c.in-Ok-parse.from) split names cuts none,
    )
