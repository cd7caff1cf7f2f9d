-- Headers, from the parts that the reader takes.
use Rattle.std.proofs.Common.{◌≡◌, ◌≢◌, ℕ, List, [], ◌∷◌, refl}
use Rattle.config_file.specs.Bytes.{is_name_byte, is_blank}
use Rattle.config_file.specs.Runs.{Run, StopsRun}
use Rattle.config_file.specs.Header.{why_at, BeginsWithout, OpensSubsection, NameStops, empty, not_closed}

pub name_stops_empty : (name after : List ℕ) → after ≢ [] → name ≡ []
    → NameStops name after 0 (why_at after)
name_stops_empty name [] some e = absurd (some refl)
name_stops_empty name (b ∷ rest) some e = rw e empty

pub name_stops_not_closed : (name after : List ℕ) → after ≢ [] → BeginsWithout 93 after
    → NameStops name after 0 (why_at after)
name_stops_not_closed name [] some h = absurd (some refl)
name_stops_not_closed name (b ∷ rest) some h = not_closed h

-- if the run of blanks at the start of a text is empty, the text does not begin with a blank
pub no_blanks : {after quoted : List ℕ} (run : List ℕ) → Run is_blank after run quoted → run ≡ []
    → StopsRun is_blank after
no_blanks [] h e = rw h.joined h.longest
no_blanks (b ∷ run) h e = cc

pub opened : {text name inner : List ℕ} (after blanks quoted : List ℕ) → Run is_name_byte text name after
    → Run is_blank after blanks quoted
    → blanks ≢ [] → quoted ≡ 34 ∷ inner → OpensSubsection text name inner
opened {inner = inner} after blanks quoted name_run blank_run some e =
    record {
      blanks = blanks;
      blanked = after;
      quote = 34;
      name_run = name_run;
      blank_run = rw e at blank_run;
      some_blank = some;
      is_quote = refl;
    }
