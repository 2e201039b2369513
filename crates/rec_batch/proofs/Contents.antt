-- Contents that may be null, and headers.
use Rattle.std.proofs.Common.{◌≡◌, ℕ, zero, suc, ◌+◌, ◌-◌, ◌<◌, List, refl, arith}
use Rattle.std.specs.Prelude.{ℤ, pos, negsuc, Some, ◌≢◌}
use Rattle.rec_batch.specs.Passing.{◌>>=◌, content_in, counted_in, headers_in, nullable_in, split_in}

-- where it isn't null, it is so many bytes
pub content_other : (n : ℤ) (bytes : List ℕ) → n ≢ negsuc 0 → content_in n bytes ≡ (split_in n bytes >>= λ parts. Some parts.1)
unfolding content_in split_in
content_other (pos n) bytes h = refl
content_other (negsuc zero) bytes h = absurd (h refl)
content_other (negsuc (suc n)) bytes h = refl

pub headers_next : (count counter : ℕ) (bytes : List ℕ) → counter < count →
    headers_in (count - counter) bytes ≡ (counted_in bytes >>= λ key. nullable_in key >>= λ value. headers_in (count - (counter + 1)) value)
unfolding headers_in
headers_next count counter bytes h =
    let e : count - counter ≡ suc (count - (counter + 1)) = omega arith in rw e refl

pub headers_end : (count : ℕ) (bytes : List ℕ) → count ≡ 0 → headers_in count bytes ≡ Some bytes
unfolding headers_in
headers_end count bytes e = rw e refl
