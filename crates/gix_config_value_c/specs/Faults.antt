-- The numbers and texts of faults in C.
use Rattle.std.specs.Prelude.{◌≡◌, ◌==◌, ℕ, ◌-◌, List, [], ◌∷◌, ◌++◌, Option, None, Some, codes}
use Rattle.std.specs.Prelude.{if◌then◌else◌}
use Rattle.std.specs.List.{slice_get}
use Rattle.config_text.specs.Faults.{fault_text}
use Rattle.config_text.specs.declared.errors.Fault.TheVariants as faults
use Rattle.config_path.specs.Interpolation.{place_shown, path_error_text}
use Rattle.config_path.specs.declared.interpolate.Error.{Error}
use Rattle.config_path.specs.declared.interpolate.Error.TheVariants.{PathMissing, InstallDirMissing}
use Rattle.config_path.specs.declared.interpolate.Error.TheVariants.{HomeMissing, LookupMissing, UserNotFound}
use Rattle.config_path.specs.declared.interpolate.Error.TheVariants.{IllFormed, Memory}
use Rattle.config_path.specs.declared.interpolate.Place.{Place}
use Rattle.config_path.specs.declared.interpolate.Place.TheVariants.{PastPrefix, PastHome, Username, PastUser}
use Rattle.config_path.specs.declared.interpolate.Place.TheVariants.{Whole}
use Rattle.gix_config_value_c.specs.declared.status.Status.TheVariants as statuses
use Rattle.gix_config_value_c.specs.Numbers.{status_number}
use Rattle.gix_config_value_c.specs.Buffers.{AnswersText}

-- the number of a place in a path that is not UTF-8
abbrev pub place_number : Place → ℕ
place_number PastPrefix = 11
place_number PastHome = 12
place_number Username = 13
place_number PastUser = 14
place_number Whole = 15

-- the number of a fault of a path; out of memory is a status and not a fault, and gets the number 0
abbrev pub path_fault_number : Error → ℕ
path_fault_number PathMissing = 6
path_fault_number InstallDirMissing = 7
path_fault_number HomeMissing = 8
path_fault_number LookupMissing = 9
path_fault_number UserNotFound = 10
path_fault_number (IllFormed place input) = place_number place
path_fault_number (Memory e) = 0

-- the text of an error about bytes that are not UTF-8
abbrev pub ill_formed : Place → List ℕ
ill_formed place = codes "Ill-formed UTF-8 in " ++ place_shown place

-- the texts of the faults, in the order of their numbers, which begin with 1
abbrev pub fault_texts : List (List ℕ)
fault_texts =
    fault_text faults.Boolean ∷ fault_text faults.Integer ∷ fault_text faults.Overflow ∷ fault_text faults.OutOfRange
    ∷ fault_text faults.Color ∷ path_error_text PathMissing ∷ path_error_text InstallDirMissing
    ∷ path_error_text HomeMissing ∷ path_error_text LookupMissing ∷ path_error_text UserNotFound
    ∷ ill_formed PastPrefix ∷ ill_formed PastHome ∷ ill_formed Username ∷ ill_formed PastUser ∷ ill_formed Whole
    ∷ []

-- the text of the fault with this number, or `None` if no fault has it
abbrev pub numbered_text : ℕ → Option (List ℕ)
numbered_text number = if number == 0 then None else slice_get fault_texts (number - 1)

-- the text of the fault with the number is put into the buffer, or the status says that no fault has it
abbrev pub TellsFault : ℕ → List ℕ → List ℕ → ℕ → ℕ → ℕ → Type 0
TellsFault number buffer buffer' size size' status = AnswersText (λ text. numbered_text number ≡ Some text)
    (λ reason. (reason ≡ status_number statuses.UnknownFault) × (numbered_text number ≡ None)) buffer buffer' size size' status
