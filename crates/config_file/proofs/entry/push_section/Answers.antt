use Rattle.std.proofs.Common.{option_map, ap}
use Rattle.config_file.proofs.Listed.{plain_appended, quoted_appended}
use Rattle.config_file.proofs.entry.push_section.Goals as goal

pub returns-in_ok-push-2 : goal.returns-in_ok-push-2
returns-in_ok-push-2 c listed h =
    quoted_appended c.args.text.now.items _ _ _ _ h (ap (option_map (λ subsection. subsection.raw.now)) c.in-Some.is)
    c.in_ok-push_lower.ensures c.in_ok-push.ensures.items c.in_ok-push_text.ensures c.in_ok-push-2.ensures.items

pub returns-in_default : goal.returns-in_default
returns-in_default c listed h =
    plain_appended c.args.text.now.items _ _ h (ap (option_map (λ subsection. subsection.raw.now)) c.in_default.is)
    c.in_ok-push_lower.ensures c.in_ok-push.ensures.items
