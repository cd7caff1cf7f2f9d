-- What git-config(1) says about configuration files, with its own examples. A definition with a wrong escape,
-- comment sign, byte of a name, case, include or condition fails here. Not on that page, but as Git reads
-- them, are CR, the byte order mark, and the lines of entries and errors.
use Rattle.std.proofs.Common.{true, false, ◌≡◌, ℕ, List, [], ◌∷◌, ◌++◌, map, option_map, codes, Bor, Option}
use Rattle.std.proofs.Common.{Some, None, false, refl, ap, inl, inr, arith, zero, suc, ◌<◌}
use Rattle.std.specs.List.{flat_map, slice_index_or}
use Rattle.std.proofs.lemmas.Option.{same_Some, none-some}
use Prim.Native.String.{String}
use Rattle.config_file.proofs.Fronts.{is_front, lacks}
use Rattle.config_file.proofs.PatternsOnLiterals.{AreMatched, all_matched}
use Rattle.config_file.proofs.OnLiterals.{Row, Lists, AreListed, lists, all_listed}
use Rattle.config_file.specs.declared.errors.Why.TheVariants.{BadLine, Nul}
use Rattle.config_file.specs.declared.errors.FileError.{FileError}
use Rattle.config_file.specs.declared.include.Condition.TheVariants.{GitDir, GitDirIgnoringCase, OnBranch}
use Rattle.config_file.specs.declared.include.Condition.TheVariants.{HasRemoteUrl, Unknown}
use Rattle.config_file.specs.declared.include.Condition.{Condition}
use Rattle.config_file.specs.declared.include.Includes.TheVariants.{AsGit}
use Rattle.config_file.specs.declared.include.Repository.{Repository}
use Rattle.config_file.specs.declared.include.Urls.TheVariants.{Known}
use Rattle.config_file.specs.declared.scope.Scope.TheVariants.{System, Global, Local, Worktree, Command}
use Rattle.config_file.specs.Bytes.{line_feed}
use Rattle.config_file.specs.File.{Entry, entry_at, error_at}
use Rattle.config_file.specs.Include.{SpellsCondition, IsPathIn, below, anywhere, at_home, Holds, MatchesDir}
use Rattle.config_file.specs.Include as include
use Rattle.config_file.specs.Pattern.{MatchesText}
use Rattle.config_file.specs.Scope.{scope_name}
use Rattle.config_file.specs.Path.{Expands, below_home, below_prefix, other, BeginsUnknown, user}
use Rattle.config_file.specs.Path.{IsIncludedName, absolute, relative}

-- ---- entries

abbrev lines : List String → List ℕ
lines texts = flat_map (λ t. codes t ++ line_feed ∷ []) texts

-- an entry on this line, with this key as Git lists it and this value
abbrev row : ℕ → String → String → Row
row line key text = (codes key, Some (codes text), line)

-- "Example"
abbrev example : List ℕ
example = lines (
    "# Core variables"
    ∷ "[core]"
    ∷ "\t; Don't trust file modes"
    ∷ "\tfilemode = false"
    ∷ ""
    ∷ "# Our diff algorithm"
    ∷ "[diff]"
    ∷ "\texternal = /usr/local/bin/diff-wrapper"
    ∷ "\trenames = true"
    ∷ ""
    ∷ "[branch \"devel\"]"
    ∷ "\tremote = origin"
    ∷ "\tmerge = refs/heads/devel"
    ∷ ""
    ∷ "# Proxy settings"
    ∷ "[core]"
    ∷ "\tgitProxy=\"ssh\" for \"kernel.org\""
    ∷ "\tgitProxy=default-proxy ; for the rest"
    ∷ ""
    ∷ "[include]"
    ∷ "\tpath = /path/to/foo.inc ; include by absolute path"
    ∷ "\tpath = foo.inc ; find \"foo.inc\" relative to the current file"
    ∷ "\tpath = ~/foo.inc ; find \"foo.inc\" in your `$HOME` directory"
    ∷ ""
    ∷ "; include if $GIT_DIR is /path/to/foo/.git"
    ∷ "[includeIf \"gitdir:/path/to/foo/.git\"]"
    ∷ "\tpath = /path/to/foo.inc"
    ∷ ""
    ∷ "; include for all repositories inside /path/to/group"
    ∷ "[includeIf \"gitdir:/path/to/group/\"]"
    ∷ "\tpath = /path/to/foo.inc"
    ∷ ""
    ∷ "; include for all repositories inside $HOME/to/group"
    ∷ "[includeIf \"gitdir:~/to/group/\"]"
    ∷ "\tpath = /path/to/foo.inc"
    ∷ ""
    ∷ "; relative paths are always relative to the including"
    ∷ "; file (if the condition is true); their location is not"
    ∷ "; affected by the condition"
    ∷ "[includeIf \"gitdir:/path/to/group/\"]"
    ∷ "\tpath = foo.inc"
    ∷ ""
    ∷ "; include only if we are in a worktree where foo-branch is"
    ∷ "; currently checked out"
    ∷ "[includeIf \"onbranch:foo-branch\"]"
    ∷ "\tpath = foo.inc"
    ∷ ""
    ∷ "; include only if a remote with the given URL exists (note"
    ∷ "; that such a URL may be provided later in a file or in a"
    ∷ "; file read after this file is read, as seen in this example)"
    ∷ "[includeIf \"hasconfig:remote.*.url:https://example.com/**\"]"
    ∷ "\tpath = foo.inc"
    ∷ "[remote \"origin\"]"
    ∷ "\turl = https://example.com/git"
    ∷ []
    )

pub example_is_listed : Lists example (
    row 4 "core.filemode" "false"
    ∷ row 8 "diff.external" "/usr/local/bin/diff-wrapper"
    ∷ row 9 "diff.renames" "true"
    ∷ row 12 "branch.devel.remote" "origin"
    ∷ row 13 "branch.devel.merge" "refs/heads/devel"
    ∷ row 17 "core.gitproxy" "ssh for kernel.org"
    ∷ row 18 "core.gitproxy" "default-proxy"
    ∷ row 21 "include.path" "/path/to/foo.inc"
    ∷ row 22 "include.path" "foo.inc"
    ∷ row 23 "include.path" "~/foo.inc"
    ∷ row 27 "includeif.gitdir:/path/to/foo/.git.path" "/path/to/foo.inc"
    ∷ row 31 "includeif.gitdir:/path/to/group/.path" "/path/to/foo.inc"
    ∷ row 35 "includeif.gitdir:~/to/group/.path" "/path/to/foo.inc"
    ∷ row 41 "includeif.gitdir:/path/to/group/.path" "foo.inc"
    ∷ row 46 "includeif.onbranch:foo-branch.path" "foo.inc"
    ∷ row 52 "includeif.hasconfig:remote.*.url:https://example.com/**.path" "foo.inc"
    ∷ row 54 "remote.origin.url" "https://example.com/git"
    ∷ []
    ) None
example_is_listed = lists example _ _ refl

-- a line that gives `k` a value
abbrev valued : String × String → List ℕ × List Row × Option FileError
valued line = (codes line.0, row 1 "k" line.1 ∷ [], None)

-- "Whitespace characters surrounding name, = and value are discarded", and quotes keep them; "# or ;" begins
-- a comment; "\" and \\ .. \n for newline character, \t for horizontal tabulation and \b for backspace"
abbrev values : List (String × String)
values =
    ("k=a", "a")
    ∷ (" \tk \t= \ta \tb \t", "a \tb")
    ∷ ("k = a\tb\rc", "a\tb\rc")
    ∷ ("k = a\r\n", "a")
    ∷ ("k =", "")
    ∷ ("k = \" a \"", " a ")
    ∷ ("k = a\" \"b", "a b")
    ∷ ("k = a # b", "a")
    ∷ ("k = a ; b", "a")
    ∷ ("k = a;b", "a")
    ∷ ("k = \"a;b#c\"", "a;b#c")
    ∷ ("k = \\n\\t\\b\\\"\\\\", "\n\t\u{8}\"\\")
    ∷ ("k = \"\\n\\t\\b\\\"\\\\\"", "\n\t\u{8}\"\\")
    ∷ []

pub values_are_listed : AreListed (map valued values)
values_are_listed = all_listed (map valued values) refl

-- "A line that defines a value can be continued to the next line by ending it with a backslash". "[section]",
-- "[section "subsection"]" with the escapes \" and \\, where other backslashes are dropped, and
-- "[section.subsection]"; names of sections and of variables in any case, but not subsections. A key alone.
abbrev listings : List (List ℕ × List Row × Option FileError)
listings =
    (codes "k = a \\\n b\nl = c", row 2 "k" "a  b" ∷ row 3 "l" "c" ∷ [], None)
    ∷ (codes "k = \"a\\\r\nb\"", row 2 "k" "ab" ∷ [], None)
    ∷ (codes "k = a\\", row 2 "k" "a" ∷ [], None)
    ∷ (
      codes "[a-1] k = b\n[http \"https://Weak.example.com\"]\n\tsslVerify",
      row 1 "a-1.k" "b"
          ∷ (codes "http.https://Weak.example.com.sslverify", None, 3) ∷ [],
      None,
    )
    ∷ (codes "[Core] FileMode = No", row 1 "core.filemode" "No" ∷ [], None)
    ∷ (codes "[Branch.Main] k-1 = b", row 1 "branch.main.k-1" "b" ∷ [], None)
    ∷ (codes "[a \"\\\"b\\\\\\t# ]\"] k = b", row 1 "a.\"b\\t# ].k" "b" ∷ [], None)
    ∷ (0xef ∷ 0xbb ∷ 0xbf ∷ codes "k = a", row 1 "k" "a" ∷ [], None)
    ∷ []

pub listings_are_listed : AreListed listings
listings_are_listed = all_listed listings refl

-- a text that is refused on its second line, after the first entry
abbrev refused : String → List ℕ × List Row × Option FileError
refused text = (codes "a = b\n" ++ codes text, row 1 "a" "b" ∷ [], Some (error_at 2 BadLine))

-- "Other char escape sequences .. are invalid", and so is a quote that is not closed; names have "only
-- alphanumeric characters and -, and must start with an alphabetic character", and those of sections - and .
-- too
abbrev no_lines : List String
no_lines =
    "k = \\r" ∷ "k = \\0" ∷ "k = \"a" ∷ "k = \"a\nb\"" ∷ "a_b = 1" ∷ "a.b = 1" ∷ "1a = 1" ∷ "-a = 1" ∷ "= 1" ∷ "a b"
    ∷ "[a_b]" ∷ "[]" ∷ "[a b]" ∷ "[a\"b\"]" ∷ "[a \"b\" ]" ∷ []

pub no_lines_are_refused : AreListed (map refused no_lines)
no_lines_are_refused = all_listed (map refused no_lines) refl

pub nul_is_refused : Lists (codes "a = b\0") [] (Some (error_at 1 Nul))
nul_is_refused = lists (codes "a = b\0") _ _ refl

-- ---- includes

abbrev lent : String → Bor (List ℕ)
lent text = record { ref_ptr = (0, 0); now = codes text }

-- an entry without a value, in a section with this name, with these bytes of a subsection if it has one
abbrev alone : String → Option String → String → Entry
alone section subsection key =
    entry_at (Some (codes section, option_map (λ text. codes text) subsection)) (codes key) None 1

-- "include.path (or includeIf.*.path)": "section names are not case sensitive", nor are names of variables
pub paths_are_includes : IsPathIn (codes "include") None (alone "Include" None "PATH")
    × IsPathIn (codes "includeif") (Some (codes "gitdir:/a/")) (alone "includeIf" (Some "gitdir:/a/") "path")
paths_are_includes = ((refl, (_, refl, refl)), (refl, (_, refl, refl)))

-- no includes: another key, and `includeIf` without a subsection
pub others_are_none : ¬ (IsPathIn (codes "include") None (alone "include" None "paths"))
    × ((raw : List ℕ) → ¬ (IsPathIn (codes "includeif") (Some raw) (alone "includeif" None "path")))
others_are_none = (λ is. let e = is.0 in cc, λ raw is. none-some raw (ap (λ s. s.1) (same_Some _ _ is.1.1)))

-- the keywords gitdir, gitdir/i, onbranch and hasconfig:remote.*.url, each "followed by a colon and some
-- data"
pub conditions_are_named : SpellsCondition (codes "gitdir:/path/to/foo/.git") (GitDir (lent "/path/to/foo/.git"))
    × SpellsCondition (codes "gitdir/i:~/to/group/") (GitDirIgnoringCase (lent "~/to/group/"))
    × SpellsCondition (codes "onbranch:foo-branch") (OnBranch (lent "foo-branch"))
    × SpellsCondition (codes "hasconfig:remote.*.url:https://example.com/**") (HasRemoteUrl (lent "https://example.com/**"))
conditions_are_named = (refl, refl, refl, refl)

abbrev keywords : List (List ℕ)
keywords = codes "gitdir:" ∷ codes "gitdir/i:" ∷ codes "onbranch:" ∷ codes "hasconfig:remote.*.url:" ∷ []

unknown : (text : String) → map (λ k. is_front k (codes text)) keywords ≡ map (λ k. false) keywords
    → SpellsCondition (codes text) Unknown
unknown text e = (
  lacks (codes "gitdir:") (codes text) (cc (e)),
  lacks (codes "gitdir/i:") (codes text) (cc (e)),
  lacks (codes "onbranch:") (codes text) (cc (e)),
  lacks (codes "hasconfig:remote.*.url:") (codes text) (cc (e)),
)

-- no keyword: another word, another case, no colon
pub others_are_unknown : SpellsCondition (codes "os:linux") Unknown
    × SpellsCondition (codes "GitDir:/a/") Unknown
    × SpellsCondition (codes "gitdir") Unknown
    × SpellsCondition (codes "hasconfig:remote.a.url:b") Unknown
others_are_unknown =
    (unknown "os:linux" refl, unknown "GitDir:/a/" refl, unknown "gitdir" refl, unknown "hasconfig:remote.a.url:b" refl)

-- ---- paths

abbrev IsExpanded : String → String → Type 0
IsExpanded value path = Expands (Some (codes "/home/user")) (Some (codes "/usr")) (codes value) (codes path)

literal : (value : String) → is_front (codes "~") (codes value) ≡ false
    → is_front (codes "%(prefix)/") (codes value) ≡ false
    → IsExpanded value value
literal value a b =
    other (lacks (codes "~") (codes value) a) (lacks (codes "%(prefix)/") (codes value) b) refl

-- "subject to tilde expansion", and since Git 2.32 to that of %(prefix)/
pub paths_are_expanded : IsExpanded "~/foo.inc" "/home/user/foo.inc"
    × IsExpanded "~" "/home/user"
    × IsExpanded "%(prefix)/foo.inc" "/usr/foo.inc"
    × IsExpanded "foo.inc" "foo.inc"
    × IsExpanded "a/~/foo.inc" "a/~/foo.inc"
paths_are_expanded = (
  below_home (codes "/home/user") (codes "/foo.inc") refl refl refl refl,
  below_home (codes "/home/user") [] refl refl refl refl,
  below_prefix (codes "/usr") (codes "foo.inc") refl refl refl,
  literal "foo.inc" refl refl,
  literal "a/~/foo.inc" refl refl,
)

pub user_is_unknown : BeginsUnknown None None (codes "~user/foo.inc")
user_is_unknown = user (codes "user/foo.inc") refl refl

-- a relative path is "relative to the configuration file in which the include directive was found"
pub names_are_included : IsIncludedName (codes "/etc/gitconfig") (codes "foo.inc") (codes "/etc/foo.inc")
    × IsIncludedName (codes "config") (codes "foo.inc") (codes "foo.inc")
    × IsIncludedName (codes "/etc/gitconfig") (codes "/path/to/foo.inc") (codes "/path/to/foo.inc")
names_are_included = (
  relative (lacks (codes "/") (codes "foo.inc") refl) refl,
  relative (lacks (codes "/") (codes "foo.inc") refl) refl,
  absolute (codes "path/to/foo.inc") refl refl,
)

-- "the pattern foo/bar becomes **/foo/bar", "the pattern foo/ becomes foo/**", and "~ will be substituted"
pub patterns_are_completed : (anywhere (codes "foo/bar") ≡ codes "**/foo/bar")
    × (anywhere (codes "/foo/bar") ≡ codes "/foo/bar")
    × (below (codes "foo/") ≡ codes "foo/**")
    × (below (codes "foo") ≡ codes "foo")
    × (at_home (Some (codes "/home/user")) (codes "~/to/group/") ≡ codes "/home/user/to/group/")
patterns_are_completed = (refl, refl, refl, refl, refl)

-- ---- patterns

abbrev pairs : List (String × String) → List (List ℕ × List ℕ)
pairs rows = map (λ row. (codes row.0, codes row.1)) rows

-- gitignore(5): "An asterisk * matches anything except a slash. The character ? matches any one character
-- except /. The range notation, e.g. [a-zA-Z]". "**/foo matches file or directory foo anywhere", "abc/**
-- matches all files inside", and "a/**/b matches a/b, a/x/b, a/x/y/b". fnmatch(3) has `!`, a leading `]`, `\`
-- and classes.
abbrev matched : List (String × String)
matched =
    ("foo", "foo") ∷ ("f?o", "foo") ∷ ("*", "foo") ∷ ("f*", "foo") ∷ ("*o*a*", "foobar") ∷ ("*ab", "aab")
    ∷ ("**/foo", "foo") ∷ ("**/foo", "a/b/foo") ∷ ("abc/**", "abc/a/b") ∷ ("a/**/b", "a/b")
    ∷ ("a/**/b", "a/x/b") ∷ ("a/**/b", "a/x/y/b")
    ∷ ("[a-c]t", "bt") ∷ ("[!a]b", "cb") ∷ ("[^a]b", "cb") ∷ ("[]a]", "]") ∷ ("[\\]]", "]") ∷ ("[[:alpha:]]", "A") ∷ ("[[:digit:][:upper:]]", "7")
    ∷ ("\\*", "*") ∷ ("\\f", "f") ∷ []

abbrev not_matched : List (String × String)
not_matched =
    ("foo", "Foo") ∷ ("f?o", "f/o") ∷ ("?", "") ∷ ("*", "a/b") ∷ ("a*", "a/b") ∷ ("a**b", "a/b")
    ∷ ("**/foo", "afoo") ∷ ("abc/**", "abc")
    ∷ ("a/**/b", "a/xb") ∷ ("[a-c]t", "dt") ∷ ("[!a]b", "ab") ∷ ("[!a]b", "/b") ∷ ("[[:alpha:]]", "1")
    ∷ ("\\*", "a") ∷ []

pub patterns_match : AreMatched true false (pairs matched)
patterns_match = all_matched true false (pairs matched) refl

pub patterns_do_not_match : AreMatched false false (pairs not_matched)
patterns_do_not_match = all_matched false false (pairs not_matched) refl

-- a byte of each class, and one that it lacks: white space is Git's, which has no vertical tab
abbrev in_classes : List (String × String)
in_classes =
    ("[[:alnum:]]", "7") ∷ ("[[:alpha:]]", "A") ∷ ("[[:blank:]]", "\t") ∷ ("[[:cntrl:]]", "\u{7f}") ∷ ("[[:digit:]]", "9")
    ∷ ("[[:graph:]]", "~") ∷ ("[[:lower:]]", "z") ∷ ("[[:print:]]", " ") ∷ ("[[:punct:]]", "~") ∷ ("[[:space:]]", "\r")
    ∷ ("[[:upper:]]", "Z") ∷ ("[[:xdigit:]]", "F") ∷ []

abbrev in_no_classes : List (String × String)
in_no_classes =
    ("[[:alnum:]]", "-") ∷ ("[[:alpha:]]", "1") ∷ ("[[:blank:]]", "\n") ∷ ("[[:cntrl:]]", " ") ∷ ("[[:digit:]]", "a")
    ∷ ("[[:graph:]]", " ") ∷ ("[[:lower:]]", "Z") ∷ ("[[:print:]]", "\u{7f}") ∷ ("[[:punct:]]", "a") ∷ ("[[:space:]]", "\u{b}")
    ∷ ("[[:upper:]]", "z") ∷ ("[[:xdigit:]]", "g") ∷ []

pub classes_match : AreMatched true false (pairs in_classes)
classes_match = all_matched true false (pairs in_classes) refl

pub classes_do_not_match : AreMatched false false (pairs in_no_classes)
classes_do_not_match = all_matched false false (pairs in_no_classes) refl

-- ignoring case, for gitdir/i
abbrev matched_in_any_case : List (String × String)
matched_in_any_case =
    ("foo", "FOO") ∷ ("FOO", "foo") ∷ ("[a-c]", "B") ∷ ("[A-C]", "b") ∷ ("[[:upper:]]", "a") ∷ []

pub patterns_match_in_any_case : AreMatched true true (pairs matched_in_any_case)
patterns_match_in_any_case = all_matched true true (pairs matched_in_any_case) refl

-- ---- conditions that hold

abbrev repository : Repository
repository = record {
  real_git_dir = lent "/path/to/foo/.git";
  git_dir = lent "/path/to/foo/.git";
  branch = Some (lent "foo-branch");
  real_home = None;
}

abbrev remote : Bor (List ℕ)
remote = lent "https://example.com/git"

-- the condition holds in this repository, which has a remote
abbrev HoldsThere : Condition → Type 0
HoldsThere = Holds (AsGit (Some repository)
    (Known (record { ref_ptr = (0, 0); now = remote ∷ [] }))) (codes "/etc")

abbrev cased : List (String × String)
cased = ("/path/to/FOO/.git", "/path/to/foo/.git") ∷ ("FOO-branch", "foo-branch")
    ∷ ("https://EXAMPLE.com/**", "https://example.com/git") ∷ []

cased_differ : AreMatched false false (pairs cased)
cased_differ = all_matched false false (pairs cased) refl

abbrev same : List (String × String)
same = ("/path/to/foo/.git", "/path/to/foo/.git") ∷ ("foo-branch", "foo-branch")
    ∷ ("https://example.com/**", "https://example.com/git") ∷ []

same_match : AreMatched true false (pairs same)
same_match = all_matched true false (pairs same) refl

-- "gitdir/i: .. the same as gitdir except that matching is done case-insensitively", and the others mind case
pub conditions_mind_case : HoldsThere (GitDir (lent "/path/to/foo/.git"))
    × HoldsThere (OnBranch (lent "foo-branch"))
    × HoldsThere (HasRemoteUrl (lent "https://example.com/**"))
    × ¬ (HoldsThere (GitDir (lent "/path/to/FOO/.git")))
    × ¬ (HoldsThere (OnBranch (lent "FOO-branch")))
    × ¬ (HoldsThere (HasRemoteUrl (lent "https://EXAMPLE.com/**")))
conditions_mind_case = (
  inl (include.other (lacks (codes "./") _ refl) same_match.0),
  same_match.1.0,
  (0, remote, omega arith, refl, same_match.1.1.0),
  λ h. elim h [ inl d ↦ elsewhere d | inr d ↦ elsewhere d ],
  cased_differ.1.0,
  λ h. only (λ (url : Bor (List ℕ)). MatchesText false (codes "https://EXAMPLE.com/**") url.now) remote
      cased_differ.1.1.0 h.0 h.1 h.2 h.3 h.4,
) where
  only : {X : Type 0} (P : X → Type 0) (x : X) → ¬ (P x) → (k : ℕ) (y : X) → k < 1
      → slice_index_or (x ∷ []) k y ≡ y → ¬ (P y)
  only P x never zero y less is p = never (rw is p)
  only P x never (suc k) y less is p = omega (arith, less)

  elsewhere : ¬ (MatchesDir false (codes "/etc") (codes "/path/to/foo/.git") (codes "/path/to/FOO/.git") (codes "/path/to/foo/.git"))
  elsewhere (include.near rest e within m) = lacks (codes "./") (codes "/path/to/FOO/.git") refl rest e
  elsewhere (include.other l m) = cased_differ.0 m

pub gitdir_i_ignores_case : HoldsThere (GitDirIgnoringCase (lent "/path/to/FOO/.git"))
gitdir_i_ignores_case = inl (include.other (lacks (codes "./") _ refl) all.0) where
  all : AreMatched true true (pairs cased)
  all = all_matched true true (pairs cased) refl

-- ---- scopes

-- "--show-scope .. (worktree, local, global, system, command)"
pub scopes_are_named : map scope_name (Worktree ∷ Local ∷ Global ∷ System ∷ Command ∷ [])
    ≡ map (λ t. codes t) ("worktree" ∷ "local" ∷ "global" ∷ "system" ∷ "command" ∷ [])
scopes_are_named = refl
