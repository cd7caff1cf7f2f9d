-- A finding as JSON.
use Rattle.std.specs.Prelude.{◌≢◌, ◌++◌, List, ℕ, [], ◌∷◌, take, codes, Option, None, Some, option_map}
use Rattle.std.specs.Prelude.{if◌then◌else◌}
use Rattle.std.specs.Fmt.{decimal}
use Rattle.std.specs.List.{AllByRecursion}
use Rattle.std.specs.Str.{is_utf8}
use Rattle.std.specs.Str.Lossy.{utf8_lossy}
use Rattle.base64.specs.Engines.{standard}
use Rattle.base64.specs.GeneralPurpose.{encode_of}
use Rattle.hex.specs.Hex.{encode_lower}
use Rattle.sha2.specs.Sha256.{sha256}
use Rattle.serde_json.specs.Data.{Data, Members, null, number, unsigned, string, object, member, no_members}
use Rattle.config_checks.specs.declared.reason.Severity.{Severity}
use Rattle.config_checks.specs.declared.reason.Severity.TheVariants.{Error, Warning, Note}
use Rattle.config_checks.specs.declared.fix.Safety.{Safety}
use Rattle.config_checks.specs.declared.fix.Safety.TheVariants.{Safe, Unsafe}
use Rattle.config_checks.specs.Codes.{code_name}
use Rattle.config_checks.specs.Findings.{Finding, line_feed}

abbrev pub severity_name : Severity → List ℕ
severity_name Error = codes "error"
severity_name Warning = codes "warning"
severity_name Note = codes "note"

abbrev pub safety_name : Safety → List ℕ
safety_name Safe = codes "safe"
safety_name Unsafe = codes "unsafe"

-- ---- the fingerprint

-- a text that ends in a NUL, which no other byte of a finding is
abbrev pub part : List ℕ → List ℕ
part t = t ++ 0 ∷ []

abbrev pub part_or_nothing : Option (List ℕ) → List ℕ
part_or_nothing None = []
part_or_nothing (Some t) = part t

-- what tells a finding from all others, and not its line: its file, code, key and value, and how many
-- findings before it have
-- the same four
abbrev pub identity : ℕ → Finding → List ℕ
identity equal f =
    part f.file ++ (part (code_name f.code)
    ++ (part_or_nothing f.key ++ (part_or_nothing f.value ++ decimal equal)))

-- the first half of the SHA-256 of these bytes, in hexadecimal
abbrev pub fingerprint_of : List ℕ → List ℕ
fingerprint_of bytes = encode_lower (take 16 (sha256 bytes))

-- ---- the object

-- a text, with U+FFFD for bytes that are not UTF-8
abbrev pub text_json : List ℕ → Data
text_json t = string (utf8_lossy t)

abbrev pub text_or_null : Option (List ℕ) → Data
text_or_null None = null
text_or_null (Some t) = text_json t

-- the bytes of a text that is not UTF-8
abbrev pub bytes_json : List ℕ → Data
bytes_json t = if is_utf8 t then null else string (encode_of standard t)

abbrev pub bytes_or_null : Option (List ℕ) → Data
bytes_or_null None = null
bytes_or_null (Some t) = bytes_json t

-- the members in the order of their names
abbrev pub members_from_line : Finding → Members
members_from_line f =
    member (codes "line") (number (unsigned f.line))
    (member (codes "reason") (text_json f.reason)
    (member (codes "severity") (string (severity_name f.severity))
    (member (codes "suggested_key") (text_or_null f.suggested_key)
    (member (codes "suggested_value") (text_or_null f.suggested_value)
    (member (codes "value") (text_or_null f.value)
    (member (codes "value_base64") (bytes_or_null f.value) no_members))))))

abbrev pub finding_json : (column equal : ℕ) → Option Safety → Finding → Data
finding_json column equal fix f =
    object (member (codes "code") (string (code_name f.code))
    (member (codes "column") (number (unsigned column))
    (member (codes "file") (string f.file)
    (member (codes "fingerprint") (string (fingerprint_of (identity equal f)))
    (member (codes "fix") (text_or_null (option_map safety_name fix))
    (member (codes "key") (text_or_null f.key)
    (member (codes "key_base64") (bytes_or_null f.key) (members_from_line f))))))))

-- the text has no line feed
abbrev pub IsOneLine : List ℕ → Type 0
IsOneLine = AllByRecursion (λ b. b ≢ line_feed)
