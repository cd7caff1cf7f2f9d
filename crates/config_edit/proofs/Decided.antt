-- The entry that decides after a key was set.
use Rattle.std.proofs.Common.{ℕ, List, Some, refl, inl, inr}
use Rattle.config_file.specs.Key.{Key, IsKey}
use Rattle.config_edit.specs.Edit as spec
use Rattle.config_edit.specs.Edit.{Content, HasContents, IsIn, IsOf, HasNone, Without, WithoutIn, NoneIn}
use Rattle.config_edit.specs.Edit.{HasValue, Replaces, AddsContent, ChangesKey, ReplacesKey, AddsKey, Edits}
use Rattle.config_edit.specs.Edit.{Sets, ReplacesAll, AddsOne, Decides}

-- where nothing is lost, none is in the section, and so none is of the key
none_is_of : {key : Key} {old new : List Content} → WithoutIn key old new → HasNone key new
none_is_of spec.none = spec.none
none_is_of (spec.lost x w is) = none_is_of w
none_is_of (spec.kept x w other) = spec.kept x (none_is_of w) (λ is. other is.0.0)

replaced_decides : {key : Key} {name value text : List ℕ} {old now : List Content} → IsKey name key
    → HasContents text now → Replaces key value old now → Decides name value text
replaced_decides {key = key} is has r =
    (key, is, r.left, (r.x.0, r.x.1, Some r.raw), r.after, rw r.new_is at has, r.is_of, r.has_value, r.last)

added_decides : {key : Key} {name value text : List ℕ} {old now : List Content} → IsKey name key
    → HasContents text now → AddsContent key value old now → Decides name value text
added_decides {key = key} is has r = (
  key,
  is,
  r.kept,
  (Some r.section, key.name, Some r.raw),
  r.after,
  rw r.new_is at has,
  (r.in_section, refl),
  r.has_value,
  none_is_of r.last,
)

pub set_decides : (name value old new : List ℕ) → Sets name value old new → Decides name value new
set_decides name value old new (key, is, contents, has, inl (one, (now, has_now, replaces, bytes))) =
    replaced_decides is has_now replaces
set_decides name value old new (key, is, contents, has, inr (nothing, (now, has_now, adds, bytes))) =
    added_decides is has_now adds

pub replaced_all_decides : (name value old new : List ℕ) → ReplacesAll name value old new
    → Decides name value new
replaced_all_decides name value old new (key, is, contents, has, inl (now, has_now, replaces, bytes)) =
    replaced_decides is has_now replaces
replaced_all_decides name value old new (key, is, contents, has, inr (nothing, (now, has_now, adds, bytes))) =
    added_decides is has_now adds

pub one_added_decides : (name value old new : List ℕ) → AddsOne name value old new → Decides name value new
one_added_decides name value old new (key, is, contents, has, (now, has_now, adds, bytes)) =
    added_decides is has_now adds
