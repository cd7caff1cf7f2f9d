use Rattle.config_file.proofs.Keys.{another_section, another_left, decides}
use Rattle.config_file.proofs.Keys.{spells_left, none_left, not_spelled}
use Rattle.config_file.proofs.key.Key.is_in.Goals as goal

pub returns-in_default : goal.returns-in_default
returns-in_default c text h =
    let key = c.args.self.now in
    another_section key.section.now _ c.args.section.now.name.now _ key.section_has_no_dot
    c.in_default.ensures

pub returns-in_default-left_after : goal.returns-in_default-left_after
returns-in_default-left_after c text h =
    another_left c.args.self.now.section.now c.in-Some.bytes.now _ c.args.section.now.name.now _
    c.in-Some.ensures c.in_default-left_after.ensures

pub returns-in-Some-left : goal.returns-in-Some-left
returns-in-Some-left c text h =
    let listed = rw c.in-Some-subsection.is at h in
    decides c.args.self.now.section.now c.in-Some.bytes.now _ c.args.section.now.name.now _ _
    c.in-Some.ensures c.in-Some-left_after.ensures
    (rw (c.in-Some-subsection.is, c.in-Some-left.is) (spells_left listed c.is.ensures))

pub returns-in-None : goal.returns-in-None
returns-in-None c text h =
    decides c.args.self.now.section.now c.in-Some.bytes.now _ c.args.section.now.name.now _ _
    c.in-Some.ensures c.in-Some-left_after.ensures
    (rw c.in-None.is (none_left c.is_none.result c.in-Some-left_after.left c.is_none.ensures))

pub returns-in-None-left : goal.returns-in-None-left
returns-in-None-left c text h =
    decides c.args.self.now.section.now c.in-Some.bytes.now _ c.args.section.now.name.now _ _
    c.in-Some.ensures c.in-Some-left_after.ensures
    (rw (c.in-Some-subsection.is, c.in-None-left.is) (not_spelled c.in-Some-subsection.subsection.raw.now))
