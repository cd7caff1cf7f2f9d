-- What is wrong with a setting beyond its own value: with what it includes, or beside other settings.
use Rattle.std.specs.Prelude.{ℕ, List, Option, None, Some, codes}
use Rattle.config_file.specs.Key.{Key}
use Rattle.config_checks.specs.declared.code.Code.{Code}
use Rattle.config_checks.specs.declared.code.Code.TheVariants as kind
use Rattle.config_checks.specs.declared.reason.Severity.{Severity}
use Rattle.config_checks.specs.declared.reason.Severity.TheVariants.{Error, Warning, Note}
use Rattle.config_checks.specs.declared.setting.Setting.{Setting}
use Rattle.config_checks.specs.declared.wrong.Wrong.{Wrong}
use Rattle.config_checks.specs.declared.wrong.Wrong.TheVariants as wrongs
use Rattle.config_checks.specs.Findings.{Finding}
use Rattle.config_checks.specs.Settings.{value_of}

abbrev pub wrong_code : Wrong → Code
wrong_code wrongs.Loop = kind.IncludeLoop
wrong_code wrongs.TooDeep = kind.IncludeDepth
wrong_code wrongs.NoHome = kind.IncludePath
wrong_code (wrongs.Unreadable why) = kind.IncludePath
wrong_code (wrongs.Unread why) = kind.IncludePath
wrong_code wrongs.Missing = kind.MissingFile
wrong_code wrongs.UnknownCondition = kind.UnknownCondition
wrong_code wrongs.MissingSetting = kind.MissingSetting
wrong_code wrongs.EndlessAlias = kind.EndlessAlias
wrong_code wrongs.SubmoduleName = kind.SubmoduleName

-- Git stops at most of this, ignores a condition and a submodule that it does not know, and passes a file
-- that is not there
abbrev pub wrong_severity : Wrong → Severity
wrong_severity wrongs.Missing = Note
wrong_severity (wrongs.Unread why) = Warning
wrong_severity wrongs.UnknownCondition = Warning
wrong_severity wrongs.SubmoduleName = Warning
wrong_severity _ = Error

abbrev pub wrong_text : Wrong → List ℕ
wrong_text wrongs.Loop = codes "the file includes itself, at which Git stops"
wrong_text wrongs.TooDeep = codes "Git stops at more than ten includes, one in the other"
wrong_text wrongs.NoHome = codes "no such user or no home directory, at which Git stops"
wrong_text (wrongs.Unreadable why) = why.now
wrong_text (wrongs.Unread why) = why.now
wrong_text wrongs.Missing = codes "no such file"
wrong_text wrongs.UnknownCondition =
    codes "not a condition of Git: not one of: gitdir, gitdir/i, onbranch, hasconfig:remote.*.url"
wrong_text wrongs.MissingSetting = codes "no file has this setting, which the row asks for"
wrong_text wrongs.EndlessAlias = codes "the alias leads back to itself, at which Git stops"
wrong_text wrongs.SubmoduleName = codes "Git ignores a submodule of this name: it is empty, or .. is a part of it"

-- the finding about a setting with which this is wrong, or which this row asks for
abbrev pub wrong_finding : Setting → Option Key → Wrong → Finding
wrong_finding setting row wrong = record {
  file = setting.file.now;
  line = setting.line;
  entry = None;
  code = wrong_code wrong;
  severity = wrong_severity wrong;
  key = Some setting.key.items;
  row = row;
  value = value_of setting;
  reason = wrong_text wrong;
  fault = None;
  suggested_key = None;
  suggested_value = None;
}
