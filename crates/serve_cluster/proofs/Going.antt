-- Acts that are done one after the other, until none is left.
use Rattle.std.proofs.Common.{◌≡◌, ◌-◌, ◌==◌, true, false, List, [], ◌∷◌, ◌++◌, map, length, get_or, take, drop, refl, sym, ◌∙◌, ap, subst, arith, append_assoc, append-nil}
use Rattle.std.proofs.lemmas.Bool.{eqb-true}
use Rattle.std.proofs.lemmas.List.{take_all}
use Rattle.store_model.specs.Run.{State}
use Rattle.store_model.specs.Acts.{Act, after_acts}
use Rattle.store_model.proofs.Acts.{acts_after}
use Rattle.s3_world.specs.declared.world.S3World.{S3World}
use Rattle.s3_world.specs.Stands.{IsStore, HasStore}
use Rattle.serve_model.specs.Clusters.{ActLacksRoom}
use Rattle.serve_cluster.specs.Acting.{DoneActs, DoesActs, LacksRoom}
use Rattle.serve_cluster.proofs.Acting.{acts_lawful, acts_fit, does_more, store_after, lacks_then, lacks_more, lacks_after}

-- some of the acts were done, and these are left
pub record Going (old new : S3World) (all rest : List Act) : Type 0 where
  pub done : List Act
  pub parts : done ++ rest ≡ all
  pub does : DoesActs old new done

pub begins : (old : S3World) (all : List Act) → Going old old all all
begins old all = record { done = []; parts = refl; does = λ s st. record { lawful = tt; fit = tt; stands = st } }

pub one_done : (old mid new : S3World) (all rest : List Act) (a : Act) (later : List Act) → rest ≡ a ∷ later → Going old mid all rest → DoesActs mid new (a ∷ []) → Going old new all later
one_done old mid new all rest a later e g f =
    record {
      done = g.done ++ a ∷ [];
      parts = append_assoc g.done (a ∷ []) later ∙ (ap (λ as'. g.done ++ as') (sym e) ∙ g.parts);
      does = does_more old mid new g.done (a ∷ []) g.does f;
    }

pub all_done : (old new : S3World) (all rest : List Act) → rest ≡ [] → Going old new all rest → DoesActs old new all
all_done old new all rest e g = subst (DoesActs old new) (sym (append-nil g.done) ∙ (ap (λ as'. g.done ++ as') (sym e) ∙ g.parts)) g.does

pub going_store : (old mid : S3World) (all rest : List Act) → HasStore old → Going old mid all rest → HasStore mid
going_store old mid all rest h g = store_after old mid g.done h g.does

pub one_lacks_room : (old mid : S3World) (all rest : List Act) (a : Act) (later : List Act) → rest ≡ a ∷ later → Going old mid all rest → LacksRoom mid (λ _. a ∷ []) → LacksRoom old (λ _. all)
one_lacks_room old mid all rest a later e g f = λ s st.
    let l = lacks_more old mid g.done (λ _. a ∷ later) g.does (lacks_then mid (λ _. a ∷ []) (λ _. later) f) s st in
    subst (ActLacksRoom s) (ap (λ as'. g.done ++ as') (sym e) ∙ g.parts) l

-- ---- acts of a state, and then others of the state after them

pub done_then : (s : State) (xs ys : List Act) (mid new : S3World) → DoneActs mid s xs → DoneActs new (after_acts s xs) ys → DoneActs new s (xs ++ ys)
done_then s xs ys mid new a b =
    record { lawful = acts_lawful s xs ys a.lawful b.lawful; fit = acts_fit s xs ys a.fit b.fit; stands = subst (λ t. IsStore new t) (sym (acts_after s xs ys)) b.stands }

pub lacks_later : (s : State) (xs ys : List Act) (mid : S3World) → DoneActs mid s xs → ActLacksRoom (after_acts s xs) ys → ActLacksRoom s (xs ++ ys)
lacks_later s xs ys mid a l = lacks_after s xs ys mid a l

-- ---- items that are left, each with its act

-- items that are left are a first one and those after it
pub first_of : {A : Type 0} (xs : List A) (x : A) → false ≡ (length xs == 0) → xs ≡ get_or xs 0 x ∷ take (length xs - 1) (drop 1 xs)
first_of [] x e = absurd (let no' : false ≡ true = e in cc)
first_of (y ∷ ys) x e = ap (λ later. y ∷ later) (sym (take_all (length (y ∷ ys) - 1) ys (omega arith)))

-- none is left
pub none_of : {A : Type 0} (xs : List A) → true ≡ (length xs == 0) → xs ≡ []
none_of [] e = refl
none_of (y ∷ ys) e = absurd (let none : length (y ∷ ys) ≡ 0 = eqb-true (length (y ∷ ys)) 0 (sym e) in omega (arith, none))

-- so are their acts
pub first_act : {A : Type 0} (f : A → Act) (xs : List A) (x : A) (later : List A) → xs ≡ x ∷ later → map f xs ≡ f x ∷ map f later
first_act f xs x later e = ap (map f) e
