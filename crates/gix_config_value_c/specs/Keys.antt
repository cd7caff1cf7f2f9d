-- The key of a setting, as Git lists it.
use Rattle.std.specs.Prelude.{◌≡◌, ℕ, true, List}
use Rattle.std.specs.List.{list_all}
use Rattle.config_file.specs.Key.{Key, IsCut, is_no_dot, listed}
use Rattle.gix_config_value_c.specs.declared.status.Status.TheVariants as statuses
use Rattle.gix_config_value_c.specs.Buffers.{AnswersText}
use Rattle.gix_config_value_c.specs.Numbers.{status_number}

-- a key, cut at its first dot and at its last one, is put into the buffer as Git lists it, or it has no dot
abbrev pub PutsListed : List ℕ → List ℕ → List ℕ → ℕ → ℕ → ℕ → Type 0
PutsListed text buffer buffer' size size' status = AnswersText
    (λ shown. (k : Key) × IsCut text k × (shown ≡ listed k))
    (λ said. (list_all is_no_dot text ≡ true) × (said ≡ status_number statuses.NoSection))
    buffer buffer' size size' status
