use Rattle.std.proofs.Common.{refl, sym, ◌∙◌}
use Rattle.gix_config_value_c.specs.Walks.HoldsSection.{none}
use Rattle.gix_config_value_c.proofs.Frames.{holds_frame, plain_of, within_of}
use Rattle.gix_config_value_c.proofs.walk.held.Goals as goal

pub returns-in_default : goal.returns-in_default
returns-in_default c =
    holds_frame (rw (sym c.parts-line.ensures.0 ∙ c.in_default.is) (none refl)) c.parts-line.ensures.1 c.parts-line.ensures.2 refl refl c.flag_number.ensures

pub returns-in-None : goal.returns-in-None
returns-in-None c =
    holds_frame (plain_of _ c.in-Some.section _ (sym c.parts-line.ensures.0 ∙ c.in-Some.is) c.in-None.is refl refl)
    c.parts-line.ensures.1 c.parts-line.ensures.2 refl refl c.flag_number.ensures

pub returns-in-Some-subsection : goal.returns-in-Some-subsection
returns-in-Some-subsection c =
    holds_frame (within_of _ c.in-Some.section c.in-Some-subsection.subsection _
    (sym c.parts-line.ensures.0 ∙ c.in-Some.is) c.in-Some-subsection.is refl refl refl)
    c.parts-line.ensures.1 c.parts-line.ensures.2 refl refl c.flag_number.ensures
