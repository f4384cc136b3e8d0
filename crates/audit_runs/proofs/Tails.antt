-- What a transcript ends with is whole lines, none of which begins with a digit.
use Rattle.std.proofs.Common.{◌≡◌, ℕ, zero, suc, ◌/◌, ◌%◌, true, not, ◌==◌, Option, Some, None, List, [], ◌∷◌, ◌++◌, length, refl, arith}
use Rattle.std.specs.Prelude.{codes, slice_index}
use Rattle.std.specs.List.{AllByRecursion, list_all, range_with_len}
use Rattle.std.proofs.lemmas.Bool.{and_from}
use Rattle.hex.specs.Hex.{encode_lower, encode_with, lower_digits}
use Rattle.layout_roles.specs.Text.{word, number}
use Rattle.crdt_rows.specs.AnyRow.{any_join}
use Rattle.object_schema.specs.Schema.{words}
use Rattle.cluster_machine.specs.Layouts.{layouts}
use Rattle.cluster_machine.specs.World.{NodeLine, node_line}
use Rattle.store_model.specs.Run.{World, State}
use Rattle.text_model.specs.Transcript.{node_text, shown_text, line_at, nodes_text, end_line, tail_text}
use Rattle.audit_runs.specs.Whole.{IsOtherLines}
use Rattle.audit_runs.proofs.Lines.{Free, free_both, decimal_free, no_lines, both_lines, one_line, each_lines}

hex_digit_free : (k : ℕ) → not (slice_index lower_digits k == 10) ≡ true
hex_digit_free zero = refl
hex_digit_free (suc zero) = refl
hex_digit_free (suc (suc zero)) = refl
hex_digit_free (suc (suc (suc zero))) = refl
hex_digit_free (suc (suc (suc (suc zero)))) = refl
hex_digit_free (suc (suc (suc (suc (suc zero))))) = refl
hex_digit_free (suc (suc (suc (suc (suc (suc zero)))))) = refl
hex_digit_free (suc (suc (suc (suc (suc (suc (suc zero))))))) = refl
hex_digit_free (suc (suc (suc (suc (suc (suc (suc (suc zero)))))))) = refl
hex_digit_free (suc (suc (suc (suc (suc (suc (suc (suc (suc zero))))))))) = refl
hex_digit_free (suc (suc (suc (suc (suc (suc (suc (suc (suc (suc zero)))))))))) = refl
hex_digit_free (suc (suc (suc (suc (suc (suc (suc (suc (suc (suc (suc zero))))))))))) = refl
hex_digit_free (suc (suc (suc (suc (suc (suc (suc (suc (suc (suc (suc (suc zero)))))))))))) = refl
hex_digit_free (suc (suc (suc (suc (suc (suc (suc (suc (suc (suc (suc (suc (suc zero))))))))))))) = refl
hex_digit_free (suc (suc (suc (suc (suc (suc (suc (suc (suc (suc (suc (suc (suc (suc zero)))))))))))))) = refl
hex_digit_free (suc (suc (suc (suc (suc (suc (suc (suc (suc (suc (suc (suc (suc (suc (suc zero))))))))))))))) = refl
hex_digit_free (suc (suc (suc (suc (suc (suc (suc (suc (suc (suc (suc (suc (suc (suc (suc (suc k)))))))))))))))) = refl

pub hex_free : (bytes : List ℕ) → Free 10 (encode_lower bytes)
unfolding encode_with
hex_free [] = refl
hex_free (b ∷ bs) =
    and_from (not (slice_index lower_digits (b / 16) == 10)) (list_all (λ x. not (x == 10)) (slice_index lower_digits (b % 16) ∷ encode_lower bs)) (hex_digit_free (b / 16))
    (and_from (not (slice_index lower_digits (b % 16) == 10)) (list_all (λ x. not (x == 10)) (encode_lower bs)) (hex_digit_free (b % 16)) (hex_free bs))

-- a number behind what has no line feed
pub and_number : (t : List ℕ) (n : ℕ) → Free 10 t → Free 10 (t ++ number n)
and_number t n h = free_both 10 t (number n) h (decimal_free 10 n (omega arith))

node_is : (n : NodeLine) → IsOtherLines (node_text n)
node_is n =
    let rows : List ℕ = codes "node" ++ number n.node ++ word (codes "rows") ++ number n.rows in
    let blocks : List ℕ = rows ++ word (codes "blocks") ++ number n.blocks in
    one_line (blocks ++ word (codes "top") ++ word (encode_lower n.top))
    (free_both 10 (blocks ++ word (codes "top")) (word (encode_lower n.top))
    (free_both 10 blocks (word (codes "top"))
    (and_number (rows ++ word (codes "blocks")) n.blocks
    (free_both 10 rows (word (codes "blocks"))
    (and_number (codes "node" ++ number n.node ++ word (codes "rows")) n.rows
    (free_both 10 (codes "node" ++ number n.node) (word (codes "rows")) (and_number (codes "node") n.node refl) refl)) refl)) refl) (hex_free n.top)) refl

shown_is : (o : Option NodeLine) → IsOtherLines (shown_text o)
shown_is None = no_lines
shown_is (Some n) = node_is n

each_node : (w : World) (ns : List ℕ) → AllByRecursion (λ n. IsOtherLines (line_at w n)) ns
each_node w [] = tt
each_node w (n ∷ ns) = (shown_is (node_line any_join words layouts w n), each_node w ns)

end_is : (events requests messages : ℕ) → IsOtherLines (end_line events requests messages)
end_is events requests messages =
    one_line (codes "end" ++ number events ++ number requests ++ number messages)
    (and_number (codes "end" ++ number events ++ number requests) messages (and_number (codes "end" ++ number events) requests (and_number (codes "end") events refl))) refl

pub tail_is : (events : ℕ) (s : State) → IsOtherLines (tail_text events s)
tail_is events s =
    both_lines (nodes_text s.world) (end_line events (length s.world.requests) (length s.world.messages))
    (each_lines (line_at s.world) (range_with_len 1 16) (each_node s.world (range_with_len 1 16))) (end_is events (length s.world.requests) (length s.world.messages))
