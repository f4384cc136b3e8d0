-- How many zones the nodes of a set lie in, role by role.
use Rattle.std.proofs.Common.{◌≡◌, ℕ, ◌+◌, ◌<◌, Bool, true, false, cond, ◌&&◌, ◌||◌, List, [], ◌∷◌, ◌++◌, length, take, get_or, refl, sym, ap, ◌∙◌, arith, inl, inr}
use Rattle.std.specs.List.{list_any, filter}
use Rattle.std.proofs.lemmas.Bool.{cases_Bool}
use Rattle.std.proofs.lemmas.List.{take_all, length-append, append-nil}
use Rattle.std.proofs.lemmas.List.Elements.{filter_more}
use Rattle.std.proofs.Math.Seq.{take-append_seam, get_or-append_seam}
use Rattle.layout_roles.specs.declared.role.Role.{Role}
use Rattle.layout_roles.specs.Zones.{is_storage, name_of, zone_names, is_in_zone}
use Rattle.layout_roles.specs.Fits.{NodeSet, has_node, zones_of}
use Rattle.layout_roles.proofs.ZoneNames.{count_new, count_same}

-- what is found among those that pass
any_by : (b c : Bool) {X : Type 0} (q : X → Bool) (x : X) (ys : List X) → list_any q ys ≡ c → list_any q (cond b (x ∷ ys) ys) ≡ ((b && q x) || c)
any_by true c q x ys h = ap (λ t. q x || t) h
any_by false c q x ys h = h

pub any_filter : {X : Type 0} (p q : X → Bool) (xs : List X) → list_any q (filter p xs) ≡ list_any (λ x. p x && q x) xs
any_filter p q [] = refl
any_filter p q (x ∷ xs) = any_by (p x) (list_any (λ x. p x && q x) xs) q x (filter p xs) (any_filter p q xs)

module _ (xs : List Role) (role : Role) where
  inside : length xs < length (xs ++ role ∷ [])
  inside = let l = length-append xs (role ∷ []) in omega arith

  all : take (length xs + 1) (xs ++ role ∷ []) ≡ xs ++ role ∷ []
  all = take_all (length xs + 1) (xs ++ role ∷ []) (let l = length-append xs (role ∷ []) in omega arith)

  before : take (length xs) (xs ++ role ∷ []) ≡ xs
  before = take-append_seam xs (role ∷ [])

  last : role ≡ get_or (xs ++ role ∷ []) (length xs) role
  last = sym (get_or-append_seam xs role [] role)

  -- a storage node of a new zone
  new_zone : is_storage role ≡ true → list_any (λ other. is_storage other && is_in_zone (name_of role) other) xs ≡ false → length (zone_names (xs ++ role ∷ [])) ≡ length (zone_names xs) + 1
  new_zone storage new =
      ap (λ (ys : List Role). length (zone_names ys)) (sym all)
      ∙ count_new (xs ++ role ∷ []) (length xs) role inside last storage (ap (list_any (λ other. is_storage other && is_in_zone (name_of role) other)) before ∙ new)
      ∙ ap (λ (ys : List Role). length (zone_names ys) + 1) before

  -- a gateway, or a storage node of a zone that is there
  same_zones : (is_storage role ≡ true → list_any (λ other. is_storage other && is_in_zone (name_of role) other) xs ≡ true) → length (zone_names (xs ++ role ∷ [])) ≡ length (zone_names xs)
  same_zones old =
      ap (λ (ys : List Role). length (zone_names ys)) (sym all)
      ∙ count_same (xs ++ role ∷ []) (length xs) role inside last (λ storage. ap (list_any (λ other. is_storage other && is_in_zone (name_of role) other)) before ∙ old storage)
      ∙ ap (λ (ys : List Role). length (zone_names ys)) before

module _ (roles : List Role) (set : NodeSet) (i : ℕ) (role : Role) (within : i < length roles) (at : role ≡ get_or roles i role) where
  abbrev chosen : Role → Bool
  chosen other = has_node other.node set

  abbrev here : Role → Bool
  here other = is_storage other && is_in_zone (name_of role) other

  one_more : (b : Bool) → chosen role ≡ b → filter chosen (take (i + 1) roles) ≡ filter chosen (take i roles) ++ cond b (role ∷ []) []
  one_more b e =
      filter_more chosen roles i role within
      ∙ ap (λ (x : Role). filter chosen (take i roles) ++ cond (chosen x) (x ∷ []) []) (sym at)
      ∙ ap (λ t. filter chosen (take i roles) ++ cond t (role ∷ []) []) e

  -- a storage node of the set, in a zone of which none stood before
  pub opened : chosen role ≡ true → is_storage role ≡ true → list_any (λ other. chosen other && here other) (take i roles) ≡ false → length (zones_of (take (i + 1) roles) set) ≡ length (zones_of (take i roles) set) + 1
  opened is_chosen storage new =
      ap (λ (ys : List Role). length (zone_names ys)) (one_more true is_chosen)
      ∙ new_zone (filter chosen (take i roles)) role storage (any_filter chosen here (take i roles) ∙ new)

  -- any other role
  pub not_opened : (chosen role ≡ true → is_storage role ≡ true → list_any (λ other. chosen other && here other) (take i roles) ≡ true) → length (zones_of (take (i + 1) roles) set) ≡ length (zones_of (take i roles) set)
  not_opened old = elim (cases_Bool (chosen role)) [
    | inl t ↦
        ap (λ (ys : List Role). length (zone_names ys)) (one_more true t)
        ∙ same_zones (filter chosen (take i roles)) role (λ storage. any_filter chosen here (take i roles) ∙ old t storage)
    | inr f ↦ ap (λ (ys : List Role). length (zone_names ys)) (one_more false f ∙ append-nil (filter chosen (take i roles)))
  ]
