use Rattle.std.proofs.Common.{rules, ap, sym, subst, map, ◌∷◌, [], ◌∙◌, ◌↔◌, List, ℕ}
use Rattle.std.proofs.lemmas.List.{map-append}
use Rattle.config_url.specs.Url.{Leads}
use Rattle.config_url.proofs.UrlPaths.{here_steps, up_steps, name_steps}
use Rattle.config_url.proofs.path.keep.Goals as goal

pub returns-then-is_here : goal.returns-then-is_here
returns-then-is_here c = here_steps (map (λ n. n.now) c.args.kept.now.items) c.args.name.now (search rules)

pub returns-in-Some : goal.returns-in-Some
returns-in-Some c =
    up_steps (map (λ n. n.now) c.args.kept.now.items) (map (λ n. n.now) c.pop.new.self.items) c.args.name.now
    c.in-Some.field-0.now (search rules)
    (ap (map (λ n. n.now)) c.in-Some.ensures.items ∙ map-append (λ n. n.now) c.pop.new.self.items (c.in-Some.field-0 ∷ []))

pub returns : goal.returns
returns c =
    subst (λ k. (rest all : List (List ℕ))
    → (Leads k rest all ↔ Leads (map (λ n. n.now) c.args.kept.now.items) (c.args.name.now ∷ rest) all))
    (sym (ap (map (λ n. n.now)) c.in_ok-push.ensures.items
    ∙ map-append (λ n. n.now) c.args.kept.now.items (c.args.name ∷ [])))
    (name_steps (map (λ n. n.now) c.args.kept.now.items) c.args.name.now (λ e. search rules) (λ e. search rules))
