use Rattle.std.proofs.Common.{◌∙◌, ◌≡◌, refl, rules, inl, sym, subst, true≢false, true}
use Rattle.config_path.specs.Interpolation.{refusal}
use Rattle.config_path.specs.Interpolation.PathResult.{text}
use Rattle.config_path.specs.Parts.{joint_text}
use Rattle.config_answers.proofs.TypeLemmas.{refused_path}
use Rattle.config_answers.proofs.typed.Values.put_path.Goals.{else-is_optional-via-then-is_optional+in_ok-is_there+else-not-branch, else-is_optional-via-else-is_optional}
use Rattle.config_answers.proofs.typed.Values.put_path.Goals as goal

pub returns-in-Err : goal.returns-in-Err
returns-in-Err g c = (
  c.cut_mark-is_optional.result.0,
  c.cut_mark-is_optional.result.1.now,
  refusal c.in-Err.field-0,
  c.cut_mark-is_optional.ensures,
  c.in-Err.ensures,
  refused_path (g.H.Host.is_there c.args.self.now.host) c.cut_mark-is_optional.result.0 c.args.text.now.items
      c.in-Err.field-0,
)

pub returns : goal.returns
returns g c =
    let whole = joint_text (λ dir. dir.now) c.in-Ok.joint in
    let items : c.extend_from_slice-3.new.self.items ≡ whole = search rules in (
      c.cut_mark-is_optional.result.0,
      c.cut_mark-is_optional.result.1.now,
      text whole,
      c.cut_mark-is_optional.ensures,
      c.in-Ok.ensures,
      elim c.else-is_optional.branch [
        | else-is_optional-via-then-is_optional+in_ok-is_there+else-not-branch w ↦ inl (
          refl,
          items,
          λ is. subst (λ path. g.H.Host.is_there c.args.self.now.host path true) (w.deref.ensures.value ∙ items)
              (rw w.if-not-branch.false at w.in_ok-is_there.ensures),
        )
        | else-is_optional-via-else-is_optional w ↦
            inl (refl, items, λ is. absurd (true≢false (sym is ∙ w.if-is_optional.false)))
      ],
    )
