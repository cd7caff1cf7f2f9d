use Rattle.std.proofs.Common.{◌≡◌, ℕ, List, Result, Ok, Err, ap}
use Rattle.bstr.specs.declared.bstr.BStr.{BStr}
use Rattle.bstr.specs.BStr.{bstr_bytes}
use Rattle.config_text.specs.declared.errors.Error.{Error}
use Rattle.config_text.specs.declared.errors.Fault.{Fault}
use Rattle.config_text.specs.Refusals.{ReadsBytes, ReadsText}
use Rattle.config_text.proofs.readers.read_text.Goals as goal

-- what is read from a byte string is read from the text with the same bytes
text_read : {V : Type 0} (grammar : List ℕ → V → Type 0) (refusal : List ℕ → Fault → Type 0) (s : BStr)
    (t : List ℕ) (r : Result V Error)
    → bstr_bytes s ≡ t → ReadsBytes grammar refusal s r → ReadsText grammar refusal t r
text_read grammar refusal s t (Ok v) e h = rw (← e) h
text_read grammar refusal s t (Err x) e h = rw (← e) ((h.0.0, ap bstr_bytes h.0.1), h.1)

pub returns : goal.returns
returns g c =
    text_read g.V.Value.grammar g.V.TryRead.refusal _ c.args.input.now _ c.from.ensures c.read_bytes.ensures
