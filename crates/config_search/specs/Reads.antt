-- What Git reads: the entries of files and of a command, with what they include, in order, up to the end or to where it
-- stops.
--
-- Look for: a text is searched for `[include` since no other text asks what conditions know; where none has it, that is
-- left open. A file of the user that the user may not read counts as missing, and each other one stops Git.
use Rattle.std.specs.Prelude.{◌≡◌, ◌≢◌, ◌⊎◌, ℕ, Bool, true, false, List, [], ◌∷◌, ◌++◌, Option, None, Some}
use Rattle.std.specs.Prelude.{if◌then◌else◌, ◌==◌, ◌&&◌, ◌||◌, ◌-◌, codes, map, take}
use Rattle.std.specs.Char.{to_ascii_lowercase}
use Rattle.std.specs.Global.{Vec}
use Rattle.std.specs.List.{All, Any, list_any}
use Rattle.std.specs.Str.{bytes_eq}
use denote.Ref.{Bor}
use Rattle.config_text.specs.Bytes.{LacksFront}
use Rattle.config_file.specs.File.{Entry}
use Rattle.config_file.specs.Include.{IsRemoteUrl}
use Rattle.config_file.specs.Listing.{IsListed}
use Rattle.config_file.specs.Subsection.{SpellsSubsection}
use Rattle.config_file.specs.Settings.{IsValueOf, found_item, line_of, why_of}
use Rattle.config_file.specs.Walk.{Content, Missing, Unreadable, Item, Stops, WalksText}
use Rattle.config_file.specs.Walk as walk
use Rattle.config_file.specs.declared.errors.Stop.{Stop as Told}
use Rattle.config_file.specs.declared.errors.Why.TheVariants as because
use Rattle.config_file.specs.declared.include.Includes.{Includes}
use Rattle.config_file.specs.declared.include.Includes.TheVariants.{AsGit}
use Rattle.config_file.specs.declared.include.Urls.{Urls as UrlsOf}
use Rattle.config_file.specs.declared.include.Urls.TheVariants.{Sought, Known as Urls}
use Rattle.config_file.specs.declared.scope.Scope.{Scope}
use Rattle.config_file.specs.declared.scope.Scope.TheVariants.{Global as of_user, Command as of_command}
use Rattle.config_file.specs.declared.walk.FilePlace.{FilePlace}
use Rattle.config_file.specs.declared.walk.Known.{Known}
use Rattle.config_search.specs.System.{System}
use Rattle.config_search.specs.Names.{begins, inside, front_len}
use Rattle.config_search.specs.Files.{File}
use Rattle.config_search.specs.Command.{IsOfCommand}
use Rattle.config_search.specs.Questions.{either}
use Rattle.config_search.specs.declared.TheConstants.{REAL, SETTINGS, INCLUDED, REFUSAL}

-- an entry that is read: where Git has it from, the name of its file, and the entry, which has its line
pub record ReadEntry : Type 0 where
  pub scope : Scope
  pub file : List ℕ
  pub entry : Entry

-- a text that Git reads, and not because another one includes it
pub record Text : Type 0 where
  pub scope : Scope
  pub name : List ℕ
  pub text : List ℕ
  pub is_file : Bool

-- where Git stops: in a file, at a file that it cannot read, or at the settings of the command
pub data Stop : Type 0 where
  InFile : (file : List ℕ) → walk.Stop → Stop
  Unread : (file reason : List ℕ) → Stop
  OfCommand : Stop

-- how reading ends
pub data End : Type 0 where
  Whole : End
  At : Stop → End

-- What a text includes

-- whether a text begins with `[include`, in either case
abbrev pub begins_include : List ℕ → Bool
begins_include [] = false
begins_include (b ∷ rest) = (b == 91) && bytes_eq (codes "include") (map to_ascii_lowercase (take 7 rest))

-- whether it does, or a later part of it
abbrev pub has_include : List ℕ → Bool
has_include [] = false
has_include (b ∷ rest) = begins_include (b ∷ rest) || has_include rest

-- the folder of a file whose name without links is known, without a slash at its end. No name begins with a NUL.
abbrev pub dir_of : Option (List ℕ) → List ℕ
dir_of None = 0 ∷ []
dir_of (Some real) = take (front_len real - 1) real

-- this is the folder without links of the file of a name, which a condition in its text may ask about
abbrev pub IsDirOf : System → List ℕ → List ℕ → List ℕ → List ℕ → Type 0
IsDirOf system start name text dir = has_include text ≡ true → dir ≡ dir_of (system REAL (inside start name))

-- what the file of a name holds that an entry includes, where names begin in this folder
abbrev pub Holds : System → List ℕ → List ℕ → Content → Type 0
Holds system start name (walk.Text dir text) =
    (system INCLUDED (inside start name) ≡ Some text) × IsDirOf system start name text dir
Holds system start name Missing =
    (system INCLUDED (inside start name) ≡ None) × (system REFUSAL (inside start name) ≡ None)
Holds system start name Unreadable = (reason : List ℕ)
    × (system INCLUDED (inside start name) ≡ None) × (system REFUSAL (inside start name) ≡ Some reason)

-- the same for a text: one that is of no file includes only what is named from the root
abbrev pub HoldsFor : System → List ℕ → Bool → List ℕ → Content → Type 0
HoldsFor system start is_file name content =
    either (is_file || begins (codes "/") name) (Holds system start name content) (content ≡ Unreadable)

-- What is read of texts

-- the entries of a walk over a text of this scope, as they are read
abbrev pub with_scope : Scope → List ℕ × Entry → ReadEntry
with_scope scope found = record { scope = scope; file = found.0; entry = found.1 }

-- a walk over a text comes to these entries, each in a file, and then to this end
abbrev pub WalksTo : (List ℕ → Content → Type 0) → Known → FilePlace → List ℕ → List (List ℕ × Entry) → End
    → Type 0
WalksTo contents known place text found Whole = WalksText contents known place text (map found_item found)
    true
WalksTo contents known place text found (At (InFile file stop)) =
    WalksText contents known place text (map found_item found ++ (file, Stops stop) ∷ []) false
WalksTo contents known place text found (At _) = ⊥

-- the folder of a text: that of its file, or none
abbrev pub IsDir : System → List ℕ → Text → List ℕ → Type 0
IsDir system start text dir =
    either text.is_file (IsDirOf system start text.name text.text dir) (dir ≡ 0 ∷ [])

-- of a text and of what it includes these entries are read, up to this end
abbrev pub ReadsText : System → List ℕ → Known → Text → List ReadEntry → End → Type 0
ReadsText system start known text read end = (place : FilePlace) × (found : List (List ℕ × Entry))
    × (place.name.now ≡ text.name) × IsDir system start text place.real_dir.now
    × (read ≡ map (with_scope text.scope) found)
    × WalksTo (HoldsFor system start text.is_file) known place text.text found end

-- of these texts, in order, these entries are read, up to the end or to where Git stops in one
pub data ReadsTexts (system : System) (start : List ℕ) (known : Known) : List Text → List ReadEntry → End
    → Type 0 where
  none : ReadsTexts system start known [] [] Whole
  one_more : {texts : List Text} {found more : List ReadEntry} {end : End} (text : Text)
      → ReadsTexts system start known texts found Whole → ReadsText system start known text more end
      → ReadsTexts system start known (texts ++ text ∷ []) (found ++ more) end
  stopped : {texts : List Text} {found : List ReadEntry} {stop : Stop} (text : Text)
      → ReadsTexts system start known texts found (At stop)
      → ReadsTexts system start known (texts ++ text ∷ []) found (At stop)

-- Which texts are read

-- the text of a file that is read
abbrev pub IsTextOf : System → List ℕ → File → Text → Type 0
IsTextOf system start file it = (it.scope ≡ file.scope) × (it.name ≡ file.name) × (it.is_file ≡ true)
    × (system SETTINGS (inside start file.name) ≡ Some it.text)

abbrev pub denied : List ℕ
denied = codes "denied"

-- a file counts as missing: there is none, or the user may not read it, and it is the user's
abbrev pub IsMissing : System → List ℕ → File → Type 0
IsMissing system start file = (system SETTINGS (inside start file.name) ≡ None)
    × ((system REFUSAL (inside start file.name) ≡ None)
    ⊎ ((system REFUSAL (inside start file.name) ≡ Some denied) × (file.scope ≡ of_user)))

-- Git stops at a file, since it is not read for this reason
abbrev pub IsRefused : System → List ℕ → File → List ℕ → Type 0
IsRefused system start file reason = (system SETTINGS (inside start file.name) ≡ None)
    × (system REFUSAL (inside start file.name) ≡ Some reason) × ¬ ((reason ≡ denied) × (file.scope ≡ of_user))

-- the texts of these files, in order
pub data AreTexts (system : System) (start : List ℕ) : List File → List Text → Type 0 where
  no_file : AreTexts system start [] []
  read : {files : List File} {texts : List Text} (file : File) (text : Text) → AreTexts system start files
      texts
      → IsTextOf system start file text → AreTexts system start (files ++ file ∷ []) (texts ++ text ∷ [])
  missing : {files : List File} {texts : List Text} (file : File) → AreTexts system start files texts
      → IsMissing system start file → AreTexts system start (files ++ file ∷ []) texts

-- the settings of the command as a text
abbrev pub command_of : List ℕ → Text
command_of text = record { scope = of_command; name = codes "command line"; text = text; is_file = false }

-- the texts of these files and of the command, in order, up to the end or to where Git stops as it opens them
pub data AreOpened (system : System) (start : List ℕ) : List File → List Text → End → Type 0 where
  whole : {files : List File} {texts : List Text} (command : List ℕ) → AreTexts system start files texts
      → IsOfCommand system command → AreOpened system start files (texts ++ command_of command ∷ []) Whole
  at_file : {before : List File} {texts : List Text} (file : File) (after : List File) (reason : List ℕ)
      → AreTexts system start before texts → IsRefused system start file reason
      → AreOpened system start (before ++ file ∷ after) texts (At (Unread file.name reason))
  at_command : {files : List File} {texts : List Text} → AreTexts system start files texts
      → AreOpened system start files texts (At OfCommand)

-- where reading ends: in a text, or where no more of them is opened
abbrev pub or_then : End → End → End
or_then Whole opened = opened
or_then (At stop) opened = At stop

abbrev pub ReadsOpened : System → List ℕ → Known → List Text → End → List ReadEntry → End → Type 0
ReadsOpened system start known texts opened found end =
    (of_texts : End) × ReadsTexts system start known texts found of_texts × (end ≡ or_then of_texts opened)

-- Conditions on the URLs of remotes

-- whether an entry has a condition on them, whatever its key: Git asks before it looks at that
pub data HasUrlCondition (entry : Entry) : Bool → Type 0 where
  has : (written raw : List ℕ) → entry.section ≡ Some (written, Some raw)
      → map to_ascii_lowercase written ≡ codes "includeif"
      → ((text : List ℕ) → SpellsSubsection raw text
      → (pattern : List ℕ) × (text ≡ codes "hasconfig:remote.*.url:" ++ pattern)) → HasUrlCondition entry true
  other_section : ((written raw : List ℕ) → entry.section ≡ Some (written, Some raw)
      → map to_ascii_lowercase written ≢ codes "includeif") → HasUrlCondition entry false
  other_condition : (written raw : List ℕ) → entry.section ≡ Some (written, Some raw)
      → ((text : List ℕ) → SpellsSubsection raw text → LacksFront (codes "hasconfig:remote.*.url:") text)
      → HasUrlCondition entry false

-- the URL of a remote that an entry has: the value of `remote.NAME.url`, of which a key alone has none
abbrev pub IsUrlOf : Entry → Option (List ℕ) → Type 0
IsUrlOf entry None = (entry.value ≡ None)
    ⊎ ((listed : List ℕ) → IsListed entry.section entry.key listed → ¬ (IsRemoteUrl entry))
IsUrlOf entry (Some url) = IsValueOf entry.value (Some url)
    × ((listed : List ℕ) → IsListed entry.section entry.key listed → IsRemoteUrl entry)

abbrev pub one_if : Option (List ℕ) → List (List ℕ)
one_if None = []
one_if (Some url) = url ∷ []

-- the URLs of remotes that these entries have, in order
pub data AreUrls : List ReadEntry → List (List ℕ) → Type 0 where
  no_entry : AreUrls [] []
  one_entry : {found : List ReadEntry} {urls : List (List ℕ)} (it : ReadEntry) (url : Option (List ℕ))
      → AreUrls found urls → IsUrlOf it.entry url → AreUrls (found ++ it ∷ []) (urls ++ one_if url)

abbrev pub urls_in : Includes → UrlsOf → Includes
urls_in (AsGit repository _) urls = AsGit repository urls
urls_in includes urls = includes

-- what conditions know, with these URLs
abbrev pub knowing : Known → UrlsOf → Known
knowing known urls = record { directories = known.directories; includes = urls_in known.includes urls }

abbrev pub some_include : List Text → Bool
some_include texts = list_any (λ it. has_include it.text) texts

abbrev pub is_as_git : Includes → Bool
is_as_git (AsGit repository urls) = true
is_as_git includes = false

-- What is read of texts where no URL of a remote is known at first: if a condition that is come to asks about them, all
-- texts are read for them, as if each of these conditions held, and then once more.
pub data ReadsAsGit (system : System) (start : List ℕ) (known : Known) (texts : List Text) (opened : End)
    : List ReadEntry → End → Type 0 where
  plain : {read : List ReadEntry} {end : End}
      → (is_as_git known.includes && some_include texts ≡ true → (first : List ReadEntry) × (earlier : End)
      × ReadsOpened system start known texts opened first earlier × All
      (λ it. HasUrlCondition it.entry false) first)
      → ReadsOpened system start known texts opened read end
      → ReadsAsGit system start known texts opened read end
  by_urls : {read : List ReadEntry} {end : End} (first all : List ReadEntry) (earlier : End)
      (are : Bor (List (Bor (List ℕ)))) → ReadsOpened system start known texts opened first earlier
      → Any (λ it. HasUrlCondition it.entry true) first
      → ReadsOpened system start (knowing known Sought) texts opened all Whole
      → AreUrls all (map (λ url. url.now) are.now)
      → ReadsOpened system start (knowing known (Urls are)) texts opened read end
      → ReadsAsGit system start known texts opened read end
  in_urls : {stop : Stop} (first all : List ReadEntry) (earlier : End)
      → ReadsOpened system start known texts opened first earlier → Any
      (λ it. HasUrlCondition it.entry true) first
      → ReadsOpened system start (knowing known Sought) texts opened all (At stop)
      → ReadsAsGit system start known texts opened [] (At stop)

-- how a stop is told

abbrev pub shown_reason : List ℕ → List ℕ
shown_reason reason = if bytes_eq reason denied then codes "Permission denied" else reason

-- why Git stops at an entry. Of what a text of no file includes it tells that the name has to begin at the root.
abbrev pub IsWhy : walk.Stop → Told (Vec ℕ) → Type 0
IsWhy stop told = (told.why ≡ why_of stop) ⊎ ((told.why ≡ because.Relative)
    × (why_of stop ≡ because.Unreadable))

abbrev pub Tells : Stop → Told (Vec ℕ) → Type 0
Tells (InFile file stop) told = (told.file.items ≡ file) × (told.line ≡ line_of stop) × IsWhy stop told
Tells (Unread file reason) told = (told.file.items ≡ file) × (told.line ≡ 0) × (told.why ≡ because.Unreadable)
    × (told.words.items ≡ shown_reason reason)
Tells OfCommand told = (told.file.items ≡ codes "command line") × (told.line ≡ 0)
    × (told.why ≡ because.BadCommand)
