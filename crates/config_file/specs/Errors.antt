-- How it is shown where Git stops, and why.
use denote.Ref.{Bor}
use Rattle.std.specs.Prelude.{ℕ, List, ◌++◌, ◌==◌, if◌then◌else◌, codes, encode_utf8_all}
use Rattle.std.specs.Fmt.{decimal}
use Rattle.bstr.specs.Utf8.{lossy_chars}
use Rattle.config_file.specs.declared.errors.Why.{Why}
use Rattle.config_file.specs.declared.errors.Why.TheVariants.{BadLine, Nul, NoValue, UnknownDirectory, TooDeep, ForbiddenUrl}
use Rattle.config_file.specs.declared.errors.Why.TheVariants.{Unreadable, Relative, BadFormat, BadCommand, NoFolder}
use Rattle.config_file.specs.declared.errors.FileError.{FileError}
use Rattle.config_file.specs.declared.errors.Stop.{Stop}

-- why Git stops, in words
abbrev pub why_text : Why → List ℕ
why_text BadLine = codes "bad config line"
why_text Nul = codes "a NUL byte outside a comment"
why_text NoValue = codes "an include has no value"
why_text UnknownDirectory = codes "the path of an include begins with an unknown directory"
why_text TooDeep = codes "files include each other too deep"
why_text ForbiddenUrl =
    codes "remote URLs cannot be configured in file directly or indirectly included by "
    ++ codes "includeIf.hasconfig:remote.*.url"
why_text Unreadable = codes "a file cannot be read"
why_text Relative = codes "relative config includes must come from files"
why_text BadFormat = codes "a value that Git does not know"
why_text BadCommand = codes "the settings of the command are refused"
why_text NoFolder = codes "No such file or directory"

-- the number of the status of C
abbrev pub why_number : Why → ℕ
why_number BadLine = 15
why_number Nul = 16
why_number NoValue = 18
why_number UnknownDirectory = 19
why_number TooDeep = 20
why_number ForbiddenUrl = 36
why_number Unreadable = 64
why_number Relative = 65
why_number BadFormat = 68
why_number BadCommand = 69
why_number NoFolder = 70

-- `LINE: reason`
abbrev pub error_shown : FileError → List ℕ
error_shown error = decimal error.line ++ codes ": " ++ why_text error.why

-- a name, with U+FFFD for bytes that are not UTF-8
abbrev pub name_shown : List ℕ → List ℕ
name_shown name = encode_utf8_all (lossy_chars name)

-- a line behind a name, if there is one
abbrev pub line_shown : ℕ → List ℕ
line_shown line = if line == 0 then codes ": " else codes ":" ++ decimal line ++ codes ": "

-- `FILE:LINE: reason`
abbrev pub stop_shown : Stop (Bor (List ℕ)) → List ℕ
stop_shown stop = name_shown stop.file.now ++ line_shown stop.line ++ name_shown stop.words.now
