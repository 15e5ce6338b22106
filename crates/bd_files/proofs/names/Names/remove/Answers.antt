use Rattle.std.proofs.Common.{◌≡◌, Bool, true, false, cond, not, List, [], ◌∷◌, map, filter, refl, ap, ◌∙◌, rules}
use Rattle.std.specs.Str.{bytes_eq}
use Rattle.std.proofs.lemmas.Fn.{filter_same}
use Rattle.bd_files.specs.Files.{without}
use Rattle.bd_files.proofs.names.Names.remove.Goals as goal

-- to view what passes is to pass what is viewed
map-filter : {X Y : Type 0} (view : X → Y) (p : Y → Bool) (xs : List X) → map view (filter (λ x. p (view x)) xs) ≡ filter p (map view xs)
map-filter view p [] = refl
map-filter view p (x ∷ xs) =
    elim (p (view x)) as (λ b. map view (cond b (x ∷ filter (λ x. p (view x)) xs) (filter (λ x. p (view x)) xs)) ≡ cond b (view x ∷ filter p (map view xs)) (filter p (map view xs))) [
      | true ↦ ap (λ l. view x ∷ l) (map-filter view p xs)
      | false ↦ map-filter view p xs
    ]

pub returns : goal.returns
returns c =
    let kept : c.retain.new.self.items ≡ filter (λ v. not (bytes_eq v.items c.args.name.now)) c.self.inside.names.items = filter_same _ _ _ (λ x b f' k. search rules) _ _ c.retain.ensures.filtered in
    ap (map (λ v. v.items)) kept
    ∙ map-filter (λ v. v.items) (λ other. not (bytes_eq other c.args.name.now)) c.self.inside.names.items
    ∙ ap (without c.args.name.now) c.self.view_is
