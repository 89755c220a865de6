-- The inverse law, the inverse of zero, that an inverse is the only one, and that there are no zero divisors. Assumes nothing.
use mathlib.Core.Path.{◌≡◌, refl, sym, ap, ◌∙◌}
use mathlib.Core.Bool.{Bool, true, false}
use mathlib.Core.List.{List, [], ◌∷◌}
use mathlib.Core.Logic.{◌⊎◌, inl, inr, ⊎_elim}
use Prim.Native.Nat.{ℕ, zero, suc, ◌+◌, ◌-◌, ◌%◌, ◌<◌}
use native.Mathlib.Nat.{mod-eq_of_lt, mod-lt, not-suc-le-zero, eq-or-lt_of_le, le_of_suc-le-suc, eq-zero-or-pos}
use native.Mathlib.Omega.{arith}
use lib.Dec.{T, eqb, eqb→eq, lit<}
use Rattle.lists.specs.Lists.{pick, at}
use Rattle.lists.proofs.AllLaws.{all, all_at}
use Rattle.lists.proofs.AnyLaws.{pick_same}
use Rattle.field.specs.Field.{sum, modulus, xtime, xtimes, times, power, last, inverse_of}
use Rattle.field.proofs.TimesLaws.{times_assoc, times_comm, times_zero, times_mod_left, one_times_low}
use Rattle.field.proofs.PowerLaws.{power_lt, power_add}
use Rattle.field.proofs.TableLaws.{power_turn}

-- a byte for each byte from 01 on whose product with it is 01
unfoldable inverses : List ℕ
inverses =
    1 ∷ 141 ∷ 246 ∷ 203 ∷ 82 ∷ 123 ∷ 209 ∷ 232 ∷ 79 ∷ 41 ∷ 192 ∷ 176 ∷ 225 ∷ 229 ∷ 199 ∷ 116 ∷ 180 ∷ 170 ∷ 75 ∷ 153 ∷
    43 ∷ 96 ∷ 95 ∷ 88 ∷ 63 ∷ 253 ∷ 204 ∷ 255 ∷ 64 ∷ 238 ∷ 178 ∷ 58 ∷ 110 ∷ 90 ∷ 241 ∷ 85 ∷ 77 ∷ 168 ∷ 201 ∷ 193 ∷
    10 ∷ 152 ∷ 21 ∷ 48 ∷ 68 ∷ 162 ∷ 194 ∷ 44 ∷ 69 ∷ 146 ∷ 108 ∷ 243 ∷ 57 ∷ 102 ∷ 66 ∷ 242 ∷ 53 ∷ 32 ∷ 111 ∷ 119 ∷
    187 ∷ 89 ∷ 25 ∷ 29 ∷ 254 ∷ 55 ∷ 103 ∷ 45 ∷ 49 ∷ 245 ∷ 105 ∷ 167 ∷ 100 ∷ 171 ∷ 19 ∷ 84 ∷ 37 ∷ 233 ∷ 9 ∷ 237 ∷ 92 ∷
    5 ∷ 202 ∷ 76 ∷ 36 ∷ 135 ∷ 191 ∷ 24 ∷ 62 ∷ 34 ∷ 240 ∷ 81 ∷ 236 ∷ 97 ∷ 23 ∷ 22 ∷ 94 ∷ 175 ∷ 211 ∷ 73 ∷ 166 ∷ 54 ∷
    67 ∷ 244 ∷ 71 ∷ 145 ∷ 223 ∷ 51 ∷ 147 ∷ 33 ∷ 59 ∷ 121 ∷ 183 ∷ 151 ∷ 133 ∷ 16 ∷ 181 ∷ 186 ∷ 60 ∷ 182 ∷ 112 ∷ 208 ∷
    6 ∷ 161 ∷ 250 ∷ 129 ∷ 130 ∷ 131 ∷ 126 ∷ 127 ∷ 128 ∷ 150 ∷ 115 ∷ 190 ∷ 86 ∷ 155 ∷ 158 ∷ 149 ∷ 217 ∷ 247 ∷ 2 ∷
    185 ∷ 164 ∷ 222 ∷ 106 ∷ 50 ∷ 109 ∷ 216 ∷ 138 ∷ 132 ∷ 114 ∷ 42 ∷ 20 ∷ 159 ∷ 136 ∷ 249 ∷ 220 ∷ 137 ∷ 154 ∷ 251 ∷
    124 ∷ 46 ∷ 195 ∷ 143 ∷ 184 ∷ 101 ∷ 72 ∷ 38 ∷ 200 ∷ 18 ∷ 74 ∷ 206 ∷ 231 ∷ 210 ∷ 98 ∷ 12 ∷ 224 ∷ 31 ∷ 239 ∷ 17 ∷
    117 ∷ 120 ∷ 113 ∷ 165 ∷ 142 ∷ 118 ∷ 61 ∷ 189 ∷ 188 ∷ 134 ∷ 87 ∷ 11 ∷ 40 ∷ 47 ∷ 163 ∷ 218 ∷ 212 ∷ 228 ∷ 15 ∷ 169 ∷
    39 ∷ 83 ∷ 4 ∷ 27 ∷ 252 ∷ 172 ∷ 230 ∷ 122 ∷ 7 ∷ 174 ∷ 99 ∷ 197 ∷ 219 ∷ 226 ∷ 234 ∷ 148 ∷ 139 ∷ 196 ∷ 213 ∷ 157 ∷
    248 ∷ 144 ∷ 107 ∷ 177 ∷ 13 ∷ 214 ∷ 235 ∷ 198 ∷ 14 ∷ 207 ∷ 173 ∷ 8 ∷ 78 ∷ 215 ∷ 227 ∷ 93 ∷ 80 ∷ 30 ∷ 179 ∷ 91 ∷
    35 ∷ 56 ∷ 52 ∷ 104 ∷ 70 ∷ 3 ∷ 140 ∷ 221 ∷ 156 ∷ 125 ∷ 160 ∷ 205 ∷ 26 ∷ 65 ∷ 28 ∷ []

inverses_test : T (all 255 (λ k. eqb (times (suc k) (at inverses k % 256)) 1))
unfolding inverses times xtimes xtime modulus sum all
inverses_test = tt

-- what passes the test is found, and it is below n
last_passes : (n : ℕ) (p : ℕ → Bool) (b : ℕ) → b < n → T (p b) → T (p (last n p))
unfolding last
last_passes zero p b h t = absurd (not-suc-le-zero h)
last_passes (suc n) p b h t = go (p n) refl (λ m. last_passes n p b m t)
  where
    go : (x : Bool) → p n ≡ x → (b < n → T (p (last n p))) → T (p (pick x n (last n p)))
    go true e more = rw e tt
    go false e more =
        ⊎_elim (λ (q : b ≡ n). absurd (rw (q, e) at t)) more (eq-or-lt_of_le (le_of_suc-le-suc h))

last_lt : (n : ℕ) (p : ℕ → Bool) → last (suc n) p < suc n
unfolding last
last_lt zero p = rw (pick_same {A = ℕ} (p 0) 0) (lit< tt)
last_lt (suc n) p = go (p (suc n)) (last_lt n p)
  where
    go : (x : Bool) → last (suc n) p < suc n → pick x (suc n) (last (suc n) p) < suc (suc n)
    go true h = omega arith
    go false h = omega arith

pub inverse_lt : (a : ℕ) → inverse_of a < 256
unfolding inverse_of
inverse_lt a = last_lt 255 _

-- the inverse law
pub times_inverse : (a : ℕ) → 0 < a → a < 256 → times a (inverse_of a) ≡ 1
unfolding inverse_of
times_inverse zero h g = absurd (not-suc-le-zero h)
times_inverse (suc k) h g =
    eqb→eq _ _ (last_passes 256 (λ b. eqb (times (suc k) b) 1) (at inverses k % 256) (mod-lt _ (lit< tt)) (all_at 255 _ inverses_test k (omega arith)))

-- no product with zero is 1
pub inverse_zero : inverse_of 0 ≡ 0
unfolding inverse_of last times xtimes xtime modulus sum
inverse_zero = refl

-- equal products with a byte that is not zero
pub times_cancel : (a b c : ℕ) → 0 < a → a < 256 → times a b ≡ times a c → b % 256 ≡ c % 256
times_cancel a b c p h e =
    let u : (x : ℕ) → x % 256 ≡ times (inverse_of a) (times a x) = λ x.
    rw (← times_assoc (inverse_of a) a x, times_comm (inverse_of a) a, times_inverse a p h) (sym (one_times_low x)) in
    u b ∙ ap (times (inverse_of a)) e ∙ sym (u c)

-- the only inverse
pub inverse_only : (a b : ℕ) → 0 < a → a < 256 → b < 256 → times a b ≡ 1 → b ≡ inverse_of a
inverse_only a b p h l e =
    sym (mod-eq_of_lt l) ∙ times_cancel a b (inverse_of a) p h (e ∙ sym (times_inverse a p h)) ∙ mod-eq_of_lt (inverse_lt a)

-- no zero divisors
pub times_none : (a b : ℕ) → times a b ≡ 0 → (a % 256 ≡ 0) ⊎ (b % 256 ≡ 0)
times_none a b e =
    ⊎_elim (λ (z : a % 256 ≡ 0). inl z)
    (λ (p : 0 < a % 256). inr (times_cancel (a % 256) b 0 p (mod-lt a (lit< tt)) (times_mod_left a b ∙ e ∙ sym (times_zero (a % 256)))))
    (eq-zero-or-pos (a % 256))

-- the inverse of 03 to the i is 03 to the 255 - i
pub inverse_power : (a i : ℕ) → 0 < a → a < 256 → i < 255 → power 3 i ≡ a → power 3 (255 - i) ≡ inverse_of a
inverse_power a i p h l e =
    let m : i + (255 - i) ≡ 255 = omega arith in
    inverse_only a (power 3 (255 - i)) p h (power_lt 3 (255 - i)) (rw (← e, ← power_add 3 i (255 - i), m) power_turn)
