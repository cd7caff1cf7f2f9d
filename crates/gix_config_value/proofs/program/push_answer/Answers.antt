use Rattle.std.proofs.Common.{rules, refl, List, [], ◌∷◌, ◌++◌, ℕ, codes, append_assoc, ◌≡◌, ◌∙◌}
use Rattle.gix_config_value.specs.Answers.Outcome.{accepted}
use Rattle.gix_config_value.proofs.program.push_answer.Goals as goal

joined : (before text : List ℕ)
    → ((before ++ codes "ok ") ++ text) ++ (10 ∷ []) ≡ before ++ (codes "ok " ++ (text ++ (10 ∷ [])))
joined before text = append_assoc (before ++ codes "ok ") text (10 ∷ [])
    ∙ append_assoc before (codes "ok ") (text ++ (10 ∷ []))

pub returns : goal.returns
returns c =
    record {
      outcome = accepted c.normalize_into.new.text.bytes;
      is = search rules;
      puts = rw (
        c.push_str-4.ensures.bytes,
        c.push_str-3.ensures.bytes,
        c.push_str-2.ensures.bytes,
        c.as_str.ensures.value,
      )
          (joined c.args.waiting.now.bytes c.normalize_into.new.text.bytes);
      accepts = refl;
    }
