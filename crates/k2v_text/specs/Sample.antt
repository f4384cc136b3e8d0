-- The values that a read shows of two writes, one byte each, and how they are written.
use Rattle.std.specs.Prelude.{ℕ, List, [], ◌∷◌, ◌++◌, codes}
use Rattle.k2v_model.specs.declared.line.ShownValue.{ShownValue}

-- request 1 wrote `a` at node 1; its MD5 is that of RFC 1321, A.5
abbrev pub first_value : ShownValue
first_value = record {
  node = 1;
  time = 1;
  size = 1;
  md5 = 12 ∷ 193 ∷ 117 ∷ 185 ∷ 192 ∷ 241 ∷ 182 ∷ 168 ∷ 49 ∷ 195 ∷ 153 ∷ 226 ∷ 105 ∷ 119 ∷ 38 ∷ 97 ∷ [];
}

-- request 2 wrote `b` at node 2
abbrev pub second_value : ShownValue
second_value = record {
  node = 2;
  time = 2;
  size = 1;
  md5 = 146 ∷ 235 ∷ 95 ∷ 254 ∷ 230 ∷ 174 ∷ 47 ∷ 236 ∷ 58 ∷ 215 ∷ 28 ∷ 119 ∷ 117 ∷ 49 ∷ 87 ∷ 143 ∷ [];
}

-- a line with its line feed
abbrev pub whole_line : List ℕ → List ℕ
whole_line line = line ++ 10 ∷ []

-- what a read of both tells
abbrev pub both_lines : List ℕ
both_lines =
    whole_line (codes "done 3 kget 2")
    ++ whole_line (codes "value 1/1 1 0cc175b9c0f1b6a831c399e269772661")
    ++ whole_line (codes "value 2/2 1 92eb5ffee6ae2fec3ad71c777531578f")
