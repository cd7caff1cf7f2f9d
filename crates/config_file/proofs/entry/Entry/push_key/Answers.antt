use Rattle.std.proofs.Common.{option_map, ap}
use Rattle.config_file.specs.Views.{section_of}
use Rattle.config_file.proofs.Listed.{alone_appended, section_appended}
use Rattle.config_file.proofs.entry.Entry.push_key.Goals as goal

pub returns-in-Some : goal.returns-in-Some
returns-in-Some c listed h =
    section_appended c.args.text.now.items _ _ h (ap (option_map section_of) c.in-Some.is)
    c.in_ok-push_section.ensures c.in_ok-push_lower.ensures

pub returns : goal.returns
returns c listed h =
    alone_appended c.args.text.now.items _ h (ap (option_map section_of) c.in_default.is) c.in_ok-push_lower-2.ensures
