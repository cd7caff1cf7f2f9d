-- The scopes of settings that are added.
use Rattle.std.proofs.Common.{◌≡◌, ◌++◌, List, [], sym}
use Rattle.std.proofs.lemmas.List.{append_assoc, append-nil}
use Rattle.std.proofs.lemmas.List.Elements.{All-nil, All-append}
use Rattle.config_file.specs.Settings.{AddsInScope}
use Rattle.config_file.specs.declared.scope.Scope.{Scope}
use Rattle.config_file.specs.declared.settings.Setting.{Setting}

pub scope_none : (scope : Scope) (old : List Setting) → AddsInScope scope old old
scope_none scope old = ([], sym (append-nil old), All-nil _)

pub scope_both : (scope : Scope) (old new newer : List Setting) → AddsInScope scope old new
    → AddsInScope scope new newer → AddsInScope scope old newer
scope_both scope old new newer (first, is, all) (second, is2, all2) = (
  first ++ second,
  rw (is2, is) (append_assoc old first second),
  All-append (λ s. s.scope ≡ scope) first second all all2,
)
