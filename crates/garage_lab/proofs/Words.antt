-- Which command words ask for.
use Rattle.std.proofs.Common.{get_or, String, Global, ◌≡◌, ℕ, ◌≤◌, ◌<◌, ◌+◌, ◌*◌, ◌^◌, ◌⊎◌, inl, inr, Option, Some, None, List, [], ◌∷◌, map, decimal, length, refl, sym, ap, ◌∙◌, subst, arith}
use Rattle.std.specs.String.{string_bytes}
use Rattle.std.proofs.lemmas.Fmt.{decimal_injective}
use Rattle.lab_main.proofs.ThreeWords.{are_three}
use Rattle.schedule_text.specs.Reads.{Finds}
use Rattle.workload_run.specs.declared.command.Workload as workload_run
use Rattle.serve_run.specs.declared.server.Server as serve_run
use Rattle.garage_lab.specs.declared.command.Command.{Command}
use Rattle.garage_lab.specs.declared.command.Command.TheVariants.{Layout, Moves, Replay, Check, Audit, Items, Workload, Serve}
use Rattle.garage_lab.specs.Command.{Spells, AsksForWorkload, AsksForServer, AsksFor, AreRead}

-- a word spells one number
pub no_other : (word : List ℕ) (high n : ℕ) → (word ≡ decimal n) × (n < 2 ^ 64) → high < 2 ^ 64 → (n < 1) ⊎ (high < n) → (x : ℕ) → Spells word high x → ⊥
no_other word high n h fits out x p =
    let same : n ≡ x = decimal_injective n x h.1 (omega arith) (sym h.0 ∙ p.0) in omega arith

-- words ask for one workload, and for one server
one_workload : (words : List (List ℕ)) (v w : workload_run.Workload) → AsksForWorkload words v → AsksForWorkload words w → v ≡ w
one_workload words v w h k =
    let both = sym h.spelled ∙ k.spelled in
    let count_is : decimal v.count ≡ decimal w.count = cc in
    let seed_is : decimal v.seed ≡ decimal w.seed = cc in
    let counts : v.count ≡ w.count = decimal_injective v.count w.count (omega (arith, h.few)) (omega (arith, k.few)) count_is in
    let seeds : v.seed ≡ w.seed = decimal_injective v.seed w.seed h.fits k.fits seed_is in
    λ i. record { count = counts i; seed = seeds i }

one_server : (words : List (List ℕ)) (s t : serve_run.Server) → AsksForServer words s → AsksForServer words t → s ≡ t
one_server words s t h k =
    let both = sym h.spelled ∙ k.spelled in
    let port_is : decimal s.port ≡ decimal t.port = cc in
    let count_is : decimal s.count ≡ decimal t.count = cc in
    let ports : s.port ≡ t.port = decimal_injective s.port t.port (omega (arith, h.port_high)) (omega (arith, k.port_high)) port_is in
    let counts : s.count ≡ t.count = decimal_injective s.count t.count (omega (arith, h.count_high)) (omega (arith, k.count_high)) count_is in
    λ i. record { port = ports i; count = counts i }

-- what tells the words of two commands apart: how many they are, and the first character
first_character : List (List ℕ) → ℕ
first_character [] = 0
first_character ([] ∷ more) = 0
first_character ((x ∷ word) ∷ more) = x

mark : List (List ℕ) → ℕ
mark words = 1000 * length words + first_character words

unlike : (c d : Command) (m n : ℕ) → m ≡ n → (m < n) ⊎ (n < m) → c ≡ d
unlike c d m n same (inl less) = absurd (omega arith)
unlike c d m n same (inr less) = absurd (omega arith)

-- words ask for one command
pub one_command : (words : List (List ℕ)) (c d : Command) → AsksFor words c → AsksFor words d → c ≡ d
unfolding mark first_character
one_command words Layout Layout h k = refl
one_command words Layout Moves h k = unlike Layout Moves 1108 2108 (ap mark (sym h ∙ k)) (inl (omega arith))
one_command words Layout Replay h k = unlike Layout Replay 1108 1114 (ap mark (sym h ∙ k)) (inl (omega arith))
one_command words Layout Check h k = unlike Layout Check 1108 2114 (ap mark (sym h ∙ k)) (inl (omega arith))
one_command words Layout Audit h k = unlike Layout Audit 1108 1097 (ap mark (sym h ∙ k)) (inr (omega arith))
one_command words Layout Items h k = unlike Layout Items 1108 1107 (ap mark (sym h ∙ k)) (inr (omega arith))
one_command words Layout (Workload w) h k = unlike Layout (Workload w) 1108 3119 (ap mark (sym h ∙ k.spelled)) (inl (omega arith))
one_command words Layout (Serve t) h k = unlike Layout (Serve t) 1108 3115 (ap mark (sym h ∙ k.spelled)) (inl (omega arith))
one_command words Moves Layout h k = unlike Moves Layout 2108 1108 (ap mark (sym h ∙ k)) (inr (omega arith))
one_command words Moves Moves h k = refl
one_command words Moves Replay h k = unlike Moves Replay 2108 1114 (ap mark (sym h ∙ k)) (inr (omega arith))
one_command words Moves Check h k = unlike Moves Check 2108 2114 (ap mark (sym h ∙ k)) (inl (omega arith))
one_command words Moves Audit h k = unlike Moves Audit 2108 1097 (ap mark (sym h ∙ k)) (inr (omega arith))
one_command words Moves Items h k = unlike Moves Items 2108 1107 (ap mark (sym h ∙ k)) (inr (omega arith))
one_command words Moves (Workload w) h k = unlike Moves (Workload w) 2108 3119 (ap mark (sym h ∙ k.spelled)) (inl (omega arith))
one_command words Moves (Serve t) h k = unlike Moves (Serve t) 2108 3115 (ap mark (sym h ∙ k.spelled)) (inl (omega arith))
one_command words Replay Layout h k = unlike Replay Layout 1114 1108 (ap mark (sym h ∙ k)) (inr (omega arith))
one_command words Replay Moves h k = unlike Replay Moves 1114 2108 (ap mark (sym h ∙ k)) (inl (omega arith))
one_command words Replay Replay h k = refl
one_command words Replay Check h k = unlike Replay Check 1114 2114 (ap mark (sym h ∙ k)) (inl (omega arith))
one_command words Replay Audit h k = unlike Replay Audit 1114 1097 (ap mark (sym h ∙ k)) (inr (omega arith))
one_command words Replay Items h k = unlike Replay Items 1114 1107 (ap mark (sym h ∙ k)) (inr (omega arith))
one_command words Replay (Workload w) h k = unlike Replay (Workload w) 1114 3119 (ap mark (sym h ∙ k.spelled)) (inl (omega arith))
one_command words Replay (Serve t) h k = unlike Replay (Serve t) 1114 3115 (ap mark (sym h ∙ k.spelled)) (inl (omega arith))
one_command words Check Layout h k = unlike Check Layout 2114 1108 (ap mark (sym h ∙ k)) (inr (omega arith))
one_command words Check Moves h k = unlike Check Moves 2114 2108 (ap mark (sym h ∙ k)) (inr (omega arith))
one_command words Check Replay h k = unlike Check Replay 2114 1114 (ap mark (sym h ∙ k)) (inr (omega arith))
one_command words Check Check h k = refl
one_command words Check Audit h k = unlike Check Audit 2114 1097 (ap mark (sym h ∙ k)) (inr (omega arith))
one_command words Check Items h k = unlike Check Items 2114 1107 (ap mark (sym h ∙ k)) (inr (omega arith))
one_command words Check (Workload w) h k = unlike Check (Workload w) 2114 3119 (ap mark (sym h ∙ k.spelled)) (inl (omega arith))
one_command words Check (Serve t) h k = unlike Check (Serve t) 2114 3115 (ap mark (sym h ∙ k.spelled)) (inl (omega arith))
one_command words Audit Layout h k = unlike Audit Layout 1097 1108 (ap mark (sym h ∙ k)) (inl (omega arith))
one_command words Audit Moves h k = unlike Audit Moves 1097 2108 (ap mark (sym h ∙ k)) (inl (omega arith))
one_command words Audit Replay h k = unlike Audit Replay 1097 1114 (ap mark (sym h ∙ k)) (inl (omega arith))
one_command words Audit Check h k = unlike Audit Check 1097 2114 (ap mark (sym h ∙ k)) (inl (omega arith))
one_command words Audit Audit h k = refl
one_command words Audit Items h k = unlike Audit Items 1097 1107 (ap mark (sym h ∙ k)) (inl (omega arith))
one_command words Audit (Workload w) h k = unlike Audit (Workload w) 1097 3119 (ap mark (sym h ∙ k.spelled)) (inl (omega arith))
one_command words Audit (Serve t) h k = unlike Audit (Serve t) 1097 3115 (ap mark (sym h ∙ k.spelled)) (inl (omega arith))
one_command words Items Layout h k = unlike Items Layout 1107 1108 (ap mark (sym h ∙ k)) (inl (omega arith))
one_command words Items Moves h k = unlike Items Moves 1107 2108 (ap mark (sym h ∙ k)) (inl (omega arith))
one_command words Items Replay h k = unlike Items Replay 1107 1114 (ap mark (sym h ∙ k)) (inl (omega arith))
one_command words Items Check h k = unlike Items Check 1107 2114 (ap mark (sym h ∙ k)) (inl (omega arith))
one_command words Items Audit h k = unlike Items Audit 1107 1097 (ap mark (sym h ∙ k)) (inr (omega arith))
one_command words Items Items h k = refl
one_command words Items (Workload w) h k = unlike Items (Workload w) 1107 3119 (ap mark (sym h ∙ k.spelled)) (inl (omega arith))
one_command words Items (Serve t) h k = unlike Items (Serve t) 1107 3115 (ap mark (sym h ∙ k.spelled)) (inl (omega arith))
one_command words (Workload v) Layout h k = unlike (Workload v) Layout 3119 1108 (ap mark (sym h.spelled ∙ k)) (inr (omega arith))
one_command words (Workload v) Moves h k = unlike (Workload v) Moves 3119 2108 (ap mark (sym h.spelled ∙ k)) (inr (omega arith))
one_command words (Workload v) Replay h k = unlike (Workload v) Replay 3119 1114 (ap mark (sym h.spelled ∙ k)) (inr (omega arith))
one_command words (Workload v) Check h k = unlike (Workload v) Check 3119 2114 (ap mark (sym h.spelled ∙ k)) (inr (omega arith))
one_command words (Workload v) Audit h k = unlike (Workload v) Audit 3119 1097 (ap mark (sym h.spelled ∙ k)) (inr (omega arith))
one_command words (Workload v) Items h k = unlike (Workload v) Items 3119 1107 (ap mark (sym h.spelled ∙ k)) (inr (omega arith))
one_command words (Workload v) (Workload w) h k = ap Workload (one_workload words v w h k)
one_command words (Workload v) (Serve t) h k = unlike (Workload v) (Serve t) 3119 3115 (ap mark (sym h.spelled ∙ k.spelled)) (inr (omega arith))
one_command words (Serve s) Layout h k = unlike (Serve s) Layout 3115 1108 (ap mark (sym h.spelled ∙ k)) (inr (omega arith))
one_command words (Serve s) Moves h k = unlike (Serve s) Moves 3115 2108 (ap mark (sym h.spelled ∙ k)) (inr (omega arith))
one_command words (Serve s) Replay h k = unlike (Serve s) Replay 3115 1114 (ap mark (sym h.spelled ∙ k)) (inr (omega arith))
one_command words (Serve s) Check h k = unlike (Serve s) Check 3115 2114 (ap mark (sym h.spelled ∙ k)) (inr (omega arith))
one_command words (Serve s) Audit h k = unlike (Serve s) Audit 3115 1097 (ap mark (sym h.spelled ∙ k)) (inr (omega arith))
one_command words (Serve s) Items h k = unlike (Serve s) Items 3115 1107 (ap mark (sym h.spelled ∙ k)) (inr (omega arith))
one_command words (Serve s) (Workload w) h k = unlike (Serve s) (Workload w) 3115 3119 (ap mark (sym h.spelled ∙ k.spelled)) (inl (omega arith))
one_command words (Serve s) (Serve t) h k = ap Serve (one_server words s t h k)

-- words whose bytes ask for this command, or for nothing, are read
read_as : (words : List (String Global)) (r : Option Command) → Finds (AsksFor (map string_bytes words)) r → AreRead words r
read_as words None none = none
read_as words (Some command) h = h

-- one word that was looked up by its place is all
are_one : (words : List (String Global)) (a : String Global) → length words ≡ 1 → a ≡ get_or words 0 a → words ≡ a ∷ []
are_one [] a one is0 = absurd (omega (arith, one))
are_one (x ∷ []) a one is0 = λ i. sym is0 i ∷ []
are_one (x ∷ y ∷ more) a one is0 = absurd (omega (arith, one))

-- and so are two
are_two : (words : List (String Global)) (a b : String Global) → length words ≡ 2 → a ≡ get_or words 0 a → b ≡ get_or words 1 b → words ≡ a ∷ b ∷ []
are_two [] a b two is0 is1 = absurd (omega (arith, two))
are_two (x ∷ []) a b two is0 is1 = absurd (omega (arith, two))
are_two (x ∷ y ∷ []) a b two is0 is1 = λ i. sym is0 i ∷ sym is1 i ∷ []
are_two (x ∷ y ∷ z ∷ more) a b two is0 is1 = absurd (omega (arith, two))

-- what one, two or three words ask for, which were looked up by their places
pub one_word : (words : List (String Global)) (a : String Global) (r : Option Command) → length words ≡ 1 → a ≡ get_or words 0 a → Finds (AsksFor (string_bytes a ∷ [])) r → AreRead words r
one_word words a r one is0 h = subst (λ (ws : List (String Global)). AreRead ws r) (sym (are_one words a one is0)) (read_as (a ∷ []) r h)

pub two_words : (words : List (String Global)) (a b : String Global) (r : Option Command) → length words ≡ 2 → a ≡ get_or words 0 a → b ≡ get_or words 1 b → Finds (AsksFor (string_bytes a ∷ string_bytes b ∷ [])) r → AreRead words r
two_words words a b r two is0 is1 h = subst (λ (ws : List (String Global)). AreRead ws r) (sym (are_two words a b two is0 is1)) (read_as (a ∷ b ∷ []) r h)

pub three_words : (words : List (String Global)) (a b x : String Global) (r : Option Command) → length words ≡ 3 → a ≡ get_or words 0 a → b ≡ get_or words 1 b → x ≡ get_or words 2 x →
    Finds (AsksFor (string_bytes a ∷ string_bytes b ∷ string_bytes x ∷ [])) r → AreRead words r
three_words words a b x r three is0 is1 is2 h = subst (λ (ws : List (String Global)). AreRead ws r) (sym (are_three words a b x three is0 is1 is2)) (read_as (a ∷ b ∷ x ∷ []) r h)
