use Rattle.std.proofs.Common.{rules, refl, ap, map, ◌++◌, ◌∙◌}
use Rattle.config_url.specs.Url.{joined_names}
use Rattle.config_url.proofs.UrlPieces.{counted}
use Rattle.config_url.proofs.UrlPaths.{no_path, plain_path}
use Rattle.config_url.proofs.path.path_of.Goals as goal

pub returns-then-is_plain : goal.returns-then-is_plain
returns-then-is_plain c =
    plain_path (rw c.in-Some.is at c.in_ok-text.ensures)
    (counted {text = c.in-Some.text.items} {n = c.path_length-length.result} (search rules) refl refl)
    (rw c.deref-2.ensures.value at (c.is_plain.ensures c.if-is_plain.true))

pub returns-in_default-2 : goal.returns-in_default-2
returns-in_default-2 c =
    no_path c.split_at.result.0.now c.split_at.result.1.now c.without_root.result.now
    (rw c.in-Some.is at c.in_ok-text.ensures)
    (counted {text = c.in-Some.text.items} {n = c.path_length-length.result} (search rules) (search rules) (search rules))
    c.without_root.ensures (rw c.in_default-2.is at c.in_ok-kept.ensures)

pub returns : goal.returns
returns c = record {
  normal = c.in-Some.text.items;
  names = c.split_at.result.0.now;
  query = c.split_at.result.1.now;
  kept = map (λ n. n.now) c.in-Some-2.kept.items;
  is_normal = rw c.in-Some.is at c.in_ok-text.ensures;
  is_cut = counted {text = c.in-Some.text.items} {n = c.path_length-length.result} (search rules) (search rules)
      (search rules);
  leads = rw c.without_root.ensures at (rw c.in-Some-2.is at c.in_ok-kept.ensures);
  joined = c.in_ok-extend_from_slice.ensures.items ∙ ap (λ t. t ++ c.split_at.result.1.now) (c.in_ok-push_names.ensures
      ∙ ap (λ t. t ++ joined_names (map (λ n. n.now) c.deref-4.result.now)) c.in_ok-path.ensures.items
      ∙ ap (λ k. joined_names (map (λ n. n.now) k)) c.deref-4.ensures.value);
}
