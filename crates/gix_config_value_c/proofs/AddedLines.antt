-- The lines that are added to no text are the whole text.
use Rattle.std.proofs.Common.{◌≡◌, List, ℕ, [], ◌∷◌, ◌++◌}
use Rattle.config_file.specs.Command.{Accepts, AddsSettings, KeyValue, SettingsOf}

pub alone : (setting : KeyValue) (old new text : List ℕ) → old ≡ [] → text ≡ new
    → Accepts setting × ((line : List ℕ) × AddsSettings line (setting ∷ []) × (new ≡ old ++ line))
    → Accepts setting × AddsSettings text (setting ∷ [])
alone setting old new text empty same (accepts, (line, adds, added)) = (
  accepts,
  rw (same, added, empty) adds,
)

pub all_alone : (parameters old new text : List ℕ) → old ≡ [] → text ≡ new
    → ((settings : List KeyValue) × SettingsOf parameters settings
    × ((lines : List ℕ) × AddsSettings lines settings × (new ≡ old ++ lines)))
    → ((settings : List KeyValue) × SettingsOf parameters settings × AddsSettings text settings)
all_alone parameters old new text empty same (settings, has, (lines, adds, added)) = (
  settings,
  has,
  rw (same, added, empty) adds,
)
