-- Decimal digits one after another. Assumes nothing.
use Prim.Native.Nat.{ℕ, suc, ◌+◌, ◌*◌, ◌/◌, ◌%◌, ◌≤◌, ◌<◌}
use mathlib.Core.Path.{◌≡◌, sym, ap, ap₂, ◌∙◌}
use mathlib.Core.Bool.{Bool, true, false, cond}
use mathlib.Core.List.{List, [], ◌∷◌}
use native.Mathlib.Nat.{mod-eq_of_lt, mod-mod, add-mul-mod_self_left}
use native.Mathlib.Omega.{arith}
use native.Mathlib.Numerals.{add-one}
use lib.ListN.{length, get_or, drop, drop_of_length-le}
use lib.Seq.{drop-cons}
use Rattle.test_text.specs.Digits.{is_digit, digit_of, number_from}

-- Of digits before others only what they make modulo 10^10 counts.
reduced : (v d : ℕ) → (v * 10 + d) % 10000000000 ≡ (v % 10000000000 * 10 + d) % 10000000000
reduced v d =
    ap (λ x. x % 10000000000) (let e : v * 10 + d ≡ v % 10000000000 * 10 + d + 10000000000 * (v / 10000000000 * 10) = omega arith in e)
    ∙ add-mul-mod_self_left (v % 10000000000 * 10 + d) 10000000000 (v / 10000000000 * 10)

alike : (v w d : ℕ) → v % 10000000000 ≡ w % 10000000000 → (v * 10 + d) % 10000000000 ≡ (w * 10 + d) % 10000000000
alike v w d e = reduced v d ∙ ap (λ x. (x * 10 + d) % 10000000000) e ∙ sym (reduced w d)

number_alike : (s : List ℕ) (v w : ℕ) → v % 10000000000 ≡ w % 10000000000 → number_from v s % 10000000000 ≡ number_from w s % 10000000000
unfolding number_from
number_alike [] v w e = e
number_alike (b ∷ s) v w e = by (is_digit b) (number_alike s _ _ (alike v w (digit_of b) e))
  where
    by : (t : Bool) → number_from (v * 10 + digit_of b) s % 10000000000 ≡ number_from (w * 10 + digit_of b) s % 10000000000 → cond t (number_from (v * 10 + digit_of b) s) v % 10000000000 ≡ cond t (number_from (w * 10 + digit_of b) s) w % 10000000000
    by true rest = rest
    by false rest = e

module _ (s : List ℕ) (at v : ℕ) where
  pub number_more : (x : ℕ) → at < length s → is_digit (get_or s at 0) ≡ true → x ≡ digit_of (get_or s at 0)
      → number_from v (drop at s) % 10000000000 ≡ number_from ((v * 10 + x) % 10000000000) (drop (at + 1) s) % 10000000000
  unfolding number_from
  number_more x h d e =
      ap (λ t. number_from v t % 10000000000) (drop-cons s at 0 h)
      ∙ ap (λ t. cond t (number_from (v * 10 + digit_of (get_or s at 0)) (drop (suc at) s)) v % 10000000000) d
      ∙ ap₂ (λ n y. number_from (v * 10 + y) (drop n s) % 10000000000) (sym (add-one at)) (sym e)
      ∙ number_alike (drop (at + 1) s) (v * 10 + x) ((v * 10 + x) % 10000000000) (sym (mod-mod (v * 10 + x) 10000000000))

  pub number_stop : v < 10000000000 → at < length s → is_digit (get_or s at 0) ≡ false → number_from v (drop at s) % 10000000000 ≡ v
  unfolding number_from
  number_stop l h d =
      ap (λ t. number_from v t % 10000000000) (drop-cons s at 0 h)
      ∙ ap (λ t. cond t (number_from (v * 10 + digit_of (get_or s at 0)) (drop (suc at) s)) v % 10000000000) d
      ∙ mod-eq_of_lt l

  pub number_end : v < 10000000000 → length s ≤ at → number_from v (drop at s) % 10000000000 ≡ v
  unfolding number_from
  number_end l h = ap (λ t. number_from v t % 10000000000) (drop_of_length-le s {i = at} h) ∙ mod-eq_of_lt l
