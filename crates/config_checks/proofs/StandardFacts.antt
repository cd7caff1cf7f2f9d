-- What scripts that call `config_check` rely on: the codes, the severities, the JSON and the exit statuses of
-- docs/CHECKING.md. A definition with a wrong word, member or number fails here.
use Rattle.std.proofs.Common.{◌≡◌, ℕ, Bool, true, false, List, [], ◌∷◌, ◌++◌, map, take, codes, Some, None}
use Rattle.std.proofs.Common.{Bor, refl, ap, inl, inr, arith}
use Prim.Native.String.{String}
use lib.Utf8.{encode}
use Rattle.std.specs.Fmt.{digits}
use Rattle.std.specs.Str.{is_utf8, chars}
use Rattle.std.specs.Str.Lossy.{utf8_valid_len, utf8_lossy}
use Rattle.hex.specs.Hex.{encode_lower, encode_with}
use Rattle.serde_json.specs.Data.{Data, Members, null, number, unsigned, string, object, member, no_members}
use Rattle.sha2.proofs.Facts256.{digest_of_abc_256}
use Rattle.config_text.specs.declared.errors.Fault.TheVariants as faults
use Rattle.config_checks.specs.declared.check.Counts.{Counts}
use Rattle.config_checks.specs.declared.code.Code.TheVariants as kind
use Rattle.config_checks.specs.declared.reason.Reason.TheVariants.{NoValue, Refused, TooNew, Gone, Deprecated}
use Rattle.config_checks.specs.declared.reason.Reason.TheVariants.{OtherCase}
use Rattle.config_checks.specs.declared.reason.Severity.TheVariants.{Error, Warning, Note}
use Rattle.config_checks.specs.declared.version.Version.{Version}
use Rattle.config_checks.specs.Codes.{code_name, code_of_fault}
use Rattle.config_checks.specs.Findings.{Finding}
use Rattle.config_checks.specs.Json.{finding_json, fingerprint_of, severity_name}
use Rattle.config_checks.specs.declared.fix.Safety.TheVariants.{Safe}
use Rattle.config_checks.specs.Outcome.{IsStatus}
use Rattle.config_checks.specs.Reasons.{severity_of}
use Rattle.std.specs.List.{list_all, list_any, fold}
use Rattle.config_checks.specs.declared.shape.Quote.TheVariants.{Outside, Double, Escaped}
use Rattle.config_checks.specs.Shapes.{is_no_ref_byte, quote_after}

-- ---- codes and severities

pub codes_are_named : map code_name (kind.BadBoolean ∷ kind.BadInteger ∷ kind.BadColor ∷ kind.OutOfRange
    ∷ kind.NotAWord ∷ kind.NoHome ∷ kind.BadRefspec ∷ kind.BadBranch ∷ kind.BadCommand ∷ kind.LikeAnOption
    ∷ kind.OtherValue ∷ kind.NoValue ∷ kind.MissingSetting ∷ kind.UnknownKey
    ∷ kind.TooNew ∷ kind.Gone ∷ kind.Deprecated ∷ kind.NotCanonical ∷ kind.InvalidLine ∷ kind.IncludeLoop
    ∷ kind.IncludeDepth ∷ kind.IncludePath ∷ kind.MissingFile ∷ kind.UnknownCondition ∷ kind.EndlessAlias
    ∷ kind.SubmoduleName ∷ [])
    ≡ map (λ t. codes t) ("bad-boolean" ∷ "bad-integer" ∷ "bad-color" ∷ "out-of-range"
    ∷ "not-a-word" ∷ "no-home" ∷ "bad-refspec" ∷ "bad-branch" ∷ "bad-command" ∷ "like-an-option"
    ∷ "other-value" ∷ "no-value" ∷ "missing-setting" ∷ "unknown-key"
    ∷ "too-new" ∷ "gone" ∷ "deprecated" ∷ "not-canonical" ∷ "invalid-line" ∷ "include-loop"
    ∷ "include-depth" ∷ "include-path" ∷ "missing-file" ∷ "unknown-condition" ∷ "endless-alias"
    ∷ "submodule-name" ∷ [])
codes_are_named = refl

-- a number that is too large is out of range, whether for 64 bits or for a setting
pub faults_have_codes : map (λ f. code_name (code_of_fault f))
    (faults.Boolean ∷ faults.Integer ∷ faults.Overflow ∷ faults.OutOfRange ∷ faults.Color ∷ [])
    ≡ map (λ t. codes t) ("bad-boolean" ∷ "bad-integer" ∷ "out-of-range" ∷ "out-of-range" ∷ "bad-color" ∷ [])
faults_have_codes = refl

-- "`error` if a Git command fails, `warning` .. if Git warns or ignores the setting, and `note` for a spelling
-- .. and for a setting .. that only a newer Git reads"
pub severities_are_named : (goes_on : Bool) (v : Version) (word : Bor (List ℕ))
    → map (λ r. severity_name (severity_of goes_on r))
    (NoValue ∷ Gone v ∷ Deprecated word ∷ TooNew v ∷ OtherCase word ∷ [])
    ≡ map (λ t. codes t) ("error" ∷ "warning" ∷ "warning" ∷ "note" ∷ "note" ∷ [])
severities_are_named goes_on v word = refl

pub wrong_values_are_errors : (severity_of false (Refused faults.Color) ≡ Error)
    × (severity_of true (Refused faults.Color) ≡ Warning)
wrong_values_are_errors = (refl, refl)

-- ---- names of refs, and quotes

-- "They cannot have ASCII control characters (i.e. bytes whose values are lower than \040, or \177 DEL),
-- space, tilde
-- ~, caret ^, or colon : anywhere", nor "question-mark ?", "open bracket [" and \
pub refs_lack_these : (list_all is_no_ref_byte (0 ∷ 31 ∷ 127 ∷ 32 ∷ 126 ∷ 94 ∷ 58 ∷ 63 ∷ 91 ∷ 92 ∷ []) ≡ true)
    × (list_any is_no_ref_byte (33 ∷ 42 ∷ 45 ∷ 46 ∷ 47 ∷ 57 ∷ 64 ∷ 65 ∷ 93 ∷ 123 ∷ 128 ∷ 255 ∷ []) ≡ false)
refs_lack_these = (refl, refl)

-- `'\'` is closed, and `"\"` and `\` are not: a backslash escapes but within single quotes
pub quotes_close : (fold quote_after Outside (39 ∷ 92 ∷ 39 ∷ []) ≡ Outside)
    × (fold quote_after Outside (34 ∷ 92 ∷ 34 ∷ []) ≡ Double)
    × (fold quote_after Outside (92 ∷ []) ≡ Escaped)
quotes_close = (refl, refl, refl)

-- ---- JSON

abbrev found : Finding
found = record {
  file = codes "a";
  line = 9;
  entry = None;
  code = kind.NotAWord;
  severity = Error;
  key = Some (codes "pull.ff");
  row = None;
  value = Some (codes "onyl");
  reason = codes "not a boolean, nor one of: only; did you mean only?";
  fault = None;
  suggested_key = None;
  suggested_value = Some (codes "only");
}

abbrev text : String → Data
text t = string (codes t)

abbrev members : List (String × Data) → Members
members [] = no_members
members (row ∷ rows) = member (codes row.0) row.1 (members rows)

pub findings_are_objects : finding_json 2 0 (Some Safe) found ≡ object (members (
    ("code", text "not-a-word")
    ∷ ("column", number (unsigned 2))
    ∷ ("file", text "a")
    ∷ ("fingerprint", string (fingerprint_of (codes "a\0not-a-word\0pull.ff\0onyl\0" ++ codes "0")))
    ∷ ("fix", text "safe")
    ∷ ("key", text "pull.ff")
    ∷ ("key_base64", null)
    ∷ ("line", number (unsigned 9))
    ∷ ("reason", text "not a boolean, nor one of: only; did you mean only?")
    ∷ ("severity", text "error")
    ∷ ("suggested_key", null)
    ∷ ("suggested_value", text "only")
    ∷ ("value", text "onyl")
    ∷ ("value_base64", null)
    ∷ []
    ))
unfolding digits utf8_lossy utf8_valid_len is_utf8 chars encode
findings_are_objects = refl

-- "the first half of the SHA-256", as FIPS 180-4 has it of `abc`
pub fingerprints_are_halves : fingerprint_of (codes "abc") ≡ codes "ba7816bf8f01cfea414140de5dae2223"
unfolding encode_with
fingerprints_are_halves = ap (λ digest. encode_lower (take 16 digest)) digest_of_abc_256

-- ---- exit statuses

abbrev counts : (errors warnings findings : ℕ) → Counts
counts errors warnings findings =
    record { entries = 9; unknown = 0; findings = findings; errors = errors; warnings = warnings }

-- as with grep(1) and others: 0 for nothing found, 1 for something, and 2 for what could not be read
pub statuses_are_numbered : IsStatus Error false (counts 0 1 2) 0
    × IsStatus Error false (counts 1 0 1) 1
    × IsStatus Note true (counts 1 0 1) 2
statuses_are_numbered = (inr (λ h. omega (arith, h), refl), inl (omega arith, refl), refl)
