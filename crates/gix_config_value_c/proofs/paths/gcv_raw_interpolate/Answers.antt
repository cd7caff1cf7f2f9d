use Rattle.std.proofs.Common.{ℕ, List, Option, Some, None, inl, inr, refl, ◌∙◌, sym, option_copied}
use denote.Ref.{Bor}
use Rattle.config_path.specs.Interpolation.{known_by}
use Rattle.config_path.specs.Laws.Interpolation.{by_lookup}
use Rattle.gix_config_value.specs.Interpolation.{PathResult, PathTable}
use Rattle.gix_config_value.specs.Passwd.{IsHomeIn}
use Rattle.gix_config_value_c.specs.Paths.{known_of}
use Rattle.gix_config_value_c.specs.Paths.InterpolatesInto.{interpolated, bad_flag}
use Rattle.gix_config_value_c.proofs.paths.gcv_raw_interpolate.Goals as goal

pub returns-in_default : goal.returns-in_default
returns-in_default c = bad_flag (inl c.in_default.ensures) (refl, refl, refl) refl

pub returns-in_default-given : goal.returns-in_default-given
returns-in_default-given c = bad_flag (inr (inl c.in_default-given.ensures)) (refl, refl, refl) refl

pub returns-in_default-given-2 : goal.returns-in_default-given-2
returns-in_default-given-2 c = bad_flag (inr (inr (inl c.in_default-given-2.ensures))) (refl, refl, refl) refl

-- a passwd text, as a lookup, gives what its lines do
in_passwd : (install_dir home passwd : Option (Bor (List ℕ))) (value : List ℕ) (result : PathResult)
    → PathTable (known_by (λ dir. dir.now) (λ text name found. IsHomeIn text.now name (option_copied found))
    install_dir home passwd) value result
    → PathTable (known_of (option_copied install_dir) (option_copied home) (option_copied passwd)) value
    result
in_passwd install_dir home None value result table = table
in_passwd install_dir home (Some passwd) value result table =
    by_lookup _ _ _ (IsHomeIn passwd.now) (λ name found u h. sym h.2 ∙ h.1) value result table

pub returns : goal.returns
returns c = interpolated _ _ _ c.cut_mark-is_optional.result.0 _ _ c.in-Some.ensures c.in-Some-given.ensures
    c.in-Some-given-2.ensures c.cut_mark-is_optional.ensures
    (in_passwd _ _ _ _ _ c.joint_of-answer.ensures) c.put_path.ensures
