-- The sets that lines give, one line after another.
use Rattle.std.proofs.Common.{◌≡◌, ◌<◌, ◌≤◌, ℕ, suc, ◌+◌, ◌-◌, Bool, true, false, nat_le, ◌==◌, ◌||◌, ◌&&◌, if◌then◌else◌, replicate, List, [], ◌∷◌, ◌++◌, length, refl, sym, ap, subst, ◌∙◌, arith, drop, get_or, eq-eqb, Option, Some, None}
use Rattle.std.specs.List.{list_any}
use Rattle.std.specs.Prelude.{IfSome, IfNone}
use Rattle.std.proofs.lemmas.Bool.{and_from, le-leb}
use Rattle.std.proofs.lemmas.List.{drop_more}
use Rattle.layout_roles.specs.Sets.{in_order}
use Rattle.layout_roles.specs.Fits.{NodeSet}
use Rattle.audit_model.specs.declared.said.Said.{Said}
use Rattle.audit_model.specs.declared.said.Said.TheVariants as said
use Rattle.audit_model.specs.Printed.{sets_from}
use Rattle.audit_prints.specs.declared.sets.Went.{Went}
use Rattle.audit_prints.specs.declared.sets.Went.TheVariants.{On, Over, High}
use Rattle.audit_prints.specs.Sets.{has_high, with_lines, WentSo}

-- the line's set is of the next partitions
abbrev pub is_next : List NodeSet → ℕ → ℕ → Bool
is_next sets first last = (first == length sets) && (nat_le first last && nat_le last 255)

module _ (sets : List NodeSet) (first last : ℕ) (set : ℕ × ℕ × ℕ) (rest : List Said) where
  was : is_next sets first last ≡ true → with_lines sets (said.Sets first last set ∷ rest) ≡ sets ++ (replicate (suc last - first) (in_order set.0 set.1 set.2) ++ sets_from (suc last) rest)
  was e = ap (λ b. sets ++ (if b then replicate (suc last - first) (in_order set.0 set.1 set.2) ++ sets_from (suc last) rest else [])) e

  -- one of them is high
  pub sets_high : is_next sets first last ≡ true → first ≤ last → has_high (in_order set.0 set.1 set.2) ≡ true → list_any has_high (with_lines sets (said.Sets first last set ∷ rest)) ≡ true
  sets_high e up high = ap (list_any has_high) (was e) ∙ behind sets (replicate (suc last - first) (in_order set.0 set.1 set.2) ++ sets_from (suc last) rest) (ap (λ n. list_any has_high (replicate n (in_order set.0 set.1 set.2) ++ sets_from (suc last) rest)) some ∙ ap (λ b. b || list_any has_high (replicate (last - first) (in_order set.0 set.1 set.2) ++ sets_from (suc last) rest)) high)
    where
      some : suc last - first ≡ suc (last - first)
      some = omega arith

      behind : (xs ys : List NodeSet) → list_any has_high ys ≡ true → list_any has_high (xs ++ ys) ≡ true
      behind [] ys h = h
      behind (x ∷ xs) ys h = elim (has_high x) as (λ b. (b || list_any has_high (xs ++ ys)) ≡ true) [
        | true ↦ refl
        | false ↦ behind xs ys h
      ]

-- where the next partitions begin
pub next_is : (sets : List NodeSet) (first last : ℕ) → first ≡ length sets → first ≤ last → last ≤ 255 → is_next sets first last ≡ true
next_is sets first last at up low =
    and_from (first == length sets) (nat_le first last && nat_le last 255) (eq-eqb first (length sets) at) (and_from (nat_le first last) (nat_le last 255) (le-leb first last up) (le-leb last 255 low))

-- ---- a line more

module _ (saids : List Said) (i : ℕ) (line : Said) (inside : i < length saids) (is : line ≡ get_or saids i line) (old new whole : List NodeSet) (went : Went) (so : (rest : List Said) → WentSo went old new line rest)
    (before : with_lines old (drop i saids) ≡ whole) where
  here : with_lines old (line ∷ drop (i + 1) saids) ≡ whole
  here = ap (with_lines old) (sym (drop_more saids i line inside ∙ ap (λ (x : Said). x ∷ drop (i + 1) saids) (sym is))) ∙ before

  pub went_on : went ≡ On → with_lines new (drop (i + 1) saids) ≡ whole
  went_on e = sym (subst (λ w. WentSo w old new line (drop (i + 1) saids)) e (so (drop (i + 1) saids))) ∙ here

  pub went_over : went ≡ Over → new ≡ whole
  went_over e = sym (subst (λ w. WentSo w old new line (drop (i + 1) saids)) e (so (drop (i + 1) saids))) ∙ here

  pub went_high : went ≡ High → list_any has_high whole ≡ true
  went_high e = ap (list_any has_high) (sym here) ∙ subst (λ w. WentSo w old new line (drop (i + 1) saids)) e (so (drop (i + 1) saids))

-- what is known of sets that were found, or weren't
pub some_found : {A : Type 0} (P : A → Type 0) (o : Option A) (x : A) → o ≡ Some x → IfSome o P → P x
some_found P o x e h = subst (λ o. IfSome o P) e h

pub none_found : {A : Type 0} (P : Type 0) (o : Option A) → o ≡ None → IfNone o P → P
none_found P o e h = subst (λ o. IfNone o P) e h
