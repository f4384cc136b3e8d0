-- States are ordered as their bytes are.
use Rattle.std.proofs.Common.{◌≡◌, ℕ, true, List, [], ◌++◌, refl, sym, ap, ◌∙◌}
use Rattle.std.proofs.lemmas.List.{append-nil}
use Rattle.std.specs.declared.cmp.Ordering.{Ordering}
use Rattle.std.specs.Ordering.{nat_cmp, ordering_then}
use Rattle.crdt_core.specs.EntryLaws.{and_parts, and_both}
use Rattle.crdt_rows.specs.declared.body.Meta.{Meta}
use Rattle.crdt_rows.specs.declared.body.Body.TheVariants.{Marker, Inline, Blocks}
use Rattle.crdt_rows.specs.declared.state.State.{State}
use Rattle.crdt_rows.specs.declared.state.State.TheVariants.{Uploading, Aborted, Complete}
use Rattle.crdt_rows.specs.Body.{meta_cmp}
use Rattle.crdt_rows.specs.BodyLaws.{then_tied}
use Rattle.crdt_rows.specs.Fields.{list_cmp, header_cmp}
use Rattle.crdt_rows.specs.State.{state_cmp}
use Rattle.row_codec.specs.NumberLaws.{block_length}
use Rattle.row_codec.specs.Range.{is_eight, is_block, is_below, is_short_meta, meta_in_range, state_in_range, is_short_state}
use Rattle.row_codec.specs.Spelling.{eight, field, meta, state}
use Rattle.row_codec.proofs.ByteOrder.{eight_order, eight_length}
use Rattle.row_codec.proofs.Ordered.{texts, Ordered, then_assoc, same_length, both_ordered, field_ordered, counted_ordered}

size_ordered : Ordered is_eight nat_cmp eight
size_ordered = record { decides = λ m n f g u v. same_length (eight m) (eight n) u v (eight_length m ∙ sym (eight_length n)) ∙ ap (λ (r : Ordering). ordering_then r (texts u v)) (eight_order m n f g) }

block_ordered : (n : ℕ) → Ordered (is_block n) texts (λ b. b)
block_ordered n = record { decides = λ a b f g u v. same_length a b u v (block_length n a f ∙ sym (block_length n b g)) }

-- the parts of a meta: size, etag, headers
meta_ordered : (a b : Meta) → meta_in_range a ≡ true → is_short_meta a ≡ true → meta_in_range b ≡ true → is_short_meta b ≡ true → (u v : List ℕ) → texts (meta a ++ u) (meta b ++ v) ≡ ordering_then (meta_cmp a b) (texts u v)
meta_ordered a b f p g q u v =
    let left = and_parts (is_eight a.size) _ f in
    let right = and_parts (is_eight b.size) _ g in
    let left_etag = (and_parts (is_block 16 a.etag) _ left.1).0 in
    let right_etag = (and_parts (is_block 16 b.etag) _ right.1).0 in
    (both_ordered size_ordered (both_ordered (block_ordered 16) (counted_ordered (both_ordered field_ordered field_ordered)))).decides (a.size, (a.etag, a.headers)) (b.size, (b.etag, b.headers)) (and_both _ _ left.0 (and_both _ _ left_etag p)) (and_both _ _ right.0 (and_both _ _ right_etag q)) u v
    ∙ ap (λ (r : Ordering). ordering_then r (texts u v)) (sym (then_assoc (nat_cmp a.size b.size) (texts a.etag b.etag) (list_cmp header_cmp a.headers b.headers)))

-- nothing follows
alone : (a b : List ℕ) → texts (a ++ []) (b ++ []) ≡ texts a b
alone a b i = texts (append-nil a i) (append-nil b i)

pub states_ordered : (a b : State) → state_in_range a ≡ true → is_short_state a ≡ true → state_in_range b ≡ true → is_short_state b ≡ true → state_cmp a b ≡ texts (state a) (state b)
states_ordered Uploading Uploading f p g q = refl
states_ordered Uploading Aborted f p g q = refl
states_ordered Uploading (Complete Marker) f p g q = refl
states_ordered Uploading (Complete (Inline m d)) f p g q = refl
states_ordered Uploading (Complete (Blocks m h)) f p g q = refl
states_ordered Aborted Uploading f p g q = refl
states_ordered Aborted Aborted f p g q = refl
states_ordered Aborted (Complete Marker) f p g q = refl
states_ordered Aborted (Complete (Inline m d)) f p g q = refl
states_ordered Aborted (Complete (Blocks m h)) f p g q = refl
states_ordered (Complete Marker) Uploading f p g q = refl
states_ordered (Complete Marker) Aborted f p g q = refl
states_ordered (Complete Marker) (Complete Marker) f p g q = refl
states_ordered (Complete Marker) (Complete (Inline n e)) f p g q = refl
states_ordered (Complete Marker) (Complete (Blocks n k)) f p g q = refl
states_ordered (Complete (Inline m d)) Uploading f p g q = refl
states_ordered (Complete (Inline m d)) Aborted f p g q = refl
states_ordered (Complete (Inline m d)) (Complete Marker) f p g q = refl
states_ordered (Complete (Inline m d)) (Complete (Inline n e)) f p g q =
    let left = and_parts (meta_in_range m) _ f in
    let right = and_parts (meta_in_range n) _ g in
    let short_left = and_parts (is_short_meta m) (is_below d) p in
    let short_right = and_parts (is_short_meta n) (is_below e) q in
    sym (meta_ordered m n left.0 short_left.0 right.0 short_right.0 (field d) (field e)
    ∙ ap (ordering_then (meta_cmp m n)) (sym (alone (field d) (field e)) ∙ (field_ordered.decides d e short_left.1 short_right.1 [] [] ∙ then_tied _)))
states_ordered (Complete (Inline m d)) (Complete (Blocks n k)) f p g q = refl
states_ordered (Complete (Blocks m h)) Uploading f p g q = refl
states_ordered (Complete (Blocks m h)) Aborted f p g q = refl
states_ordered (Complete (Blocks m h)) (Complete Marker) f p g q = refl
states_ordered (Complete (Blocks m h)) (Complete (Inline n e)) f p g q = refl
states_ordered (Complete (Blocks m h)) (Complete (Blocks n k)) f p g q =
    let left = and_parts (meta_in_range m) _ f in
    let right = and_parts (meta_in_range n) _ g in
    sym (meta_ordered m n left.0 p right.0 q h.0 k.0)
