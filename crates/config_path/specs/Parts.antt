-- The text that parts make.
use Rattle.std.specs.Prelude.{ℕ, List, [], ◌++◌, codes, Result, Ok, Err, if◌then◌else◌, option_copied}
use Rattle.std.specs.Option.{option_map_or}
use Rattle.config_path.specs.declared.interpolate.Error.{Error}
use Rattle.config_path.specs.declared.parts.Form as code
use Rattle.config_path.specs.declared.parts.Form.TheVariants as forms
use Rattle.config_path.specs.declared.parts.Joint.{Joint}
use Rattle.config_path.specs.declared.parts.Parts.{Parts}
use Rattle.config_path.specs.Interpolation.{Form, PathResult, refusal}
use Rattle.config_path.specs.Interpolation.Form.{empty, below_prefix, below_home, below_user, other}
use Rattle.config_path.specs.Interpolation.PathResult.{text}

-- the text of the parts
abbrev pub parts_text : Parts → List ℕ
parts_text p = p.dir.now ++ (if p.has_slash then codes "/" else []) ++ p.rest.now

-- parts, or an error, as a result of the path table
abbrev pub parts_result : Result Parts Error → PathResult
parts_result (Ok p) = text (parts_text p)
parts_result (Err e) = refusal e

-- a form of the code as a form of the table, by its bytes
abbrev pub form_in : code.Form → Form
form_in forms.Empty = empty
form_in (forms.BelowPrefix rest) = below_prefix rest.now
form_in (forms.BelowHome rest) = below_home (option_copied rest)
form_in (forms.BelowUser name rest) = below_user name.now (option_copied rest)
form_in (forms.Other value) = other value.now

-- the text of a joint, if a directory has these bytes
abbrev pub joint_text : {D : Type 0} → (D → List ℕ) → Joint D → List ℕ
joint_text bytes j = option_map_or bytes j.dir [] ++ (if j.has_slash then codes "/" else []) ++ j.rest.now

-- a joint, or an error, as a result of the path table
abbrev pub joint_result : {D : Type 0} → (D → List ℕ) → Result (Joint D) Error → PathResult
joint_result bytes (Ok j) = text (joint_text bytes j)
joint_result bytes (Err e) = refusal e
