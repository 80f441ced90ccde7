-- What a stop leaves is a crash image, also with FF in place of what was written.
use Rattle.std.proofs.Common.{◌≡◌, ◌≤◌, ℕ, zero, suc, ◌+◌, ◌-◌, List, [], ◌∷◌, ◌++◌, length, take, drop, replicate, refl, sym, ◌∙◌, ap, subst, arith}
use Rattle.depot_base.specs.Disk.{ImagesFollow, IsTorn, Within}
use Rattle.depot_outside.specs.Images.{LeadTo, Moment, Moments, Written, after_sync, images_at, images_of, reads_as, written_at}
use Rattle.depot_outside.specs.StopImages.{Range, blank, blanked, left_by, overwritten, ranges}
use Rattle.depot_outside.proofs.Written.{written_is_torn}
use Rattle.depot_outside.specs.declared.stops.Image.{Image}
use Rattle.depot_outside.specs.declared.stops.Image.TheVariants as image

-- ---- one range

pub blank_none : (at : ℕ) (bytes : List ℕ) → blank at 0 bytes ≡ bytes
blank_none at [] = refl
blank_none zero (b ∷ bytes) = refl
blank_none (suc at) (b ∷ bytes) = ap (λ (l : List ℕ). b ∷ l) (blank_none at bytes)

pub blank_long : (at count : ℕ) (bytes : List ℕ) → length (blank at count bytes) ≡ length bytes
blank_long at count [] = refl
blank_long zero zero (b ∷ bytes) = refl
blank_long zero (suc count) (b ∷ bytes) = ap suc (blank_long zero count bytes)
blank_long (suc at) count (b ∷ bytes) = ap suc (blank_long at count bytes)

-- as three parts, where the range is in the bytes
pub blank_parts : (at count : ℕ) (bytes : List ℕ) → at + count ≤ length bytes → blank at count bytes ≡ take at bytes ++ replicate count 255 ++ drop (at + count) bytes
blank_parts zero zero [] h = refl
blank_parts zero (suc count) [] h = absurd (omega (arith, h))
blank_parts (suc at) count [] h = absurd (omega (arith, h))
blank_parts zero zero (b ∷ bytes) h = refl
blank_parts zero (suc count) (b ∷ bytes) h =
    let next : suc (0 + count) ≡ 0 + suc count = omega arith in
    ap (λ (l : List ℕ). 255 ∷ l) (blank_parts zero count bytes (omega (arith, h))) ∙ ap (λ (n : ℕ). 255 ∷ (replicate count 255 ++ drop n (b ∷ bytes))) next
blank_parts (suc at) count (b ∷ bytes) h =
    let next : suc (at + count) ≡ suc at + count = omega arith in
    ap (λ (l : List ℕ). b ∷ l) (blank_parts at count bytes (omega (arith, h))) ∙ ap (λ (n : ℕ). b ∷ (take at bytes ++ replicate count 255 ++ drop n (b ∷ bytes))) next

-- of a prefix
pub blank_take : (k at count : ℕ) (bytes : List ℕ) → take k (blank at count bytes) ≡ blank at count (take k bytes)
blank_take zero at count bytes = refl
blank_take (suc k) at count [] = refl
blank_take (suc k) zero zero (b ∷ bytes) = refl
blank_take (suc k) zero (suc count) (b ∷ bytes) = ap (λ (l : List ℕ). 255 ∷ l) (blank_take k zero count bytes)
blank_take (suc k) (suc at) count (b ∷ bytes) = ap (λ (l : List ℕ). b ∷ l) (blank_take k at count bytes)

-- and of what follows it
pub blank_drop : (k at count : ℕ) (bytes : List ℕ) → drop k (blank at count bytes) ≡ blank (at - k) (count - (k - at)) (drop k bytes)
blank_drop zero at count bytes = ap (λ (n : ℕ). blank n count bytes) (omega arith) ∙ ap (λ (n : ℕ). blank (at - 0) n bytes) (omega arith)
blank_drop (suc k) at count [] = refl
blank_drop (suc k) zero zero (b ∷ bytes) = sym (ap (λ (n : ℕ). blank (0 - suc k) n (drop k bytes)) (omega arith) ∙ blank_none (0 - suc k) (drop k bytes))
blank_drop (suc k) zero (suc count) (b ∷ bytes) =
    blank_drop k zero count bytes ∙ ap (λ (n : ℕ). blank n (count - (k - 0)) (drop k bytes)) (omega arith) ∙ ap (λ (n : ℕ). blank (0 - suc k) n (drop k bytes)) (omega arith)
blank_drop (suc k) (suc at) count (b ∷ bytes) =
    blank_drop k at count bytes ∙ ap (λ (n : ℕ). blank n (count - (k - at)) (drop k bytes)) (omega arith) ∙ ap (λ (n : ℕ). blank (suc at - suc k) n (drop k bytes)) (omega arith)

-- nothing before the range changes, and nothing after it
pub blank_before : (at count : ℕ) (bytes : List ℕ) → take at (blank at count bytes) ≡ take at bytes
blank_before at count [] = refl
blank_before zero count (b ∷ bytes) = refl
blank_before (suc at) count (b ∷ bytes) = ap (λ (l : List ℕ). b ∷ l) (blank_before at count bytes)

pub blank_behind : (at count : ℕ) (bytes : List ℕ) → drop (at + count) (blank at count bytes) ≡ drop (at + count) bytes
blank_behind at count bytes =
    blank_drop (at + count) at count bytes ∙ ap (λ (n : ℕ). blank (at - (at + count)) n (drop (at + count) bytes)) (omega arith) ∙ blank_none (at - (at + count)) (drop (at + count) bytes)

-- ---- writes that a stop cut short

-- the bytes of the write itself
pub torn_own : (at count : ℕ) (old new : List ℕ) → IsTorn at count old new → IsTorn at count old (blank at count new)
torn_own at count old new torn = record {
  before = blank_before at count new ∙ torn.before;
  after = blank_behind at count new ∙ torn.after;
  no_shorter = omega (arith, torn.no_shorter, blank_long at count new);
  no_longer = omega (arith, torn.no_longer, blank_long at count new);
}

-- the bytes of another one, in both files
pub torn_other : (at count k n : ℕ) (old new : List ℕ) → IsTorn at count old new → IsTorn at count (blank k n old) (blank k n new)
torn_other at count k n old new torn = record {
  before = blank_take at k n new ∙ ap (blank k n) torn.before ∙ sym (blank_take at k n old);
  after = blank_drop (at + count) k n new ∙ ap (blank (k - (at + count)) (n - (at + count - k))) torn.after ∙ sym (blank_drop (at + count) k n old);
  no_shorter = omega (arith, torn.no_shorter, blank_long k n new, blank_long k n old);
  no_longer = omega (arith, torn.no_longer, blank_long k n new, blank_long k n old);
}

pub torn_others : (at count : ℕ) (rs : List Range) (old new : List ℕ) → IsTorn at count old new → IsTorn at count (blanked rs old) (blanked rs new)
torn_others at count [] old new torn = torn
torn_others at count (r ∷ rs) old new torn = torn_others at count rs (blank r.at r.count old) (blank r.at r.count new) (torn_other at count r.at r.count old new torn)

-- ---- a crash image is one of the images

pub torn_none : (at count : ℕ) (file : List ℕ) → IsTorn at count file file
torn_none at count file = record { before = refl; after = refl; no_shorter = omega arith; no_longer = omega arith }

synced_left : (synced : List ℕ) (writes : List Written) → images_of synced writes synced
synced_left synced [] = refl
synced_left synced (w ∷ writes) = (synced, synced_left synced writes, torn_none w.at w.count synced)

blanked_left : (synced : List ℕ) (writes : List Written) (file : List ℕ) → LeadTo synced writes file → images_of synced writes (blanked (ranges writes) file)
blanked_left synced [] file lead = lead
blanked_left synced (w ∷ writes) file lead =
    (blanked (ranges writes) w.file, blanked_left synced writes w.file lead.1, torn_others w.at w.count (ranges writes) w.file (blank w.at w.count file) (torn_own w.at w.count w.file file lead.0))

pub left_is_image : (left : Image) (moment : Moment) (file : List ℕ) → LeadTo moment.synced moment.writes file → images_at moment (left_by left moment file)
left_is_image image.Synced moment file lead = synced_left moment.synced moment.writes
left_is_image image.Written moment file lead = reads_as moment.synced moment.writes file lead
left_is_image image.Blanked moment file lead = blanked_left moment.synced moment.writes file lead

-- ---- a disk that stopped

same_image : (new old : Moments) (file image : List ℕ) → new ≡ after_sync old file → images_at new.now image → image ≡ file
same_image new old file image is left = subst (λ (m : Moments). images_at m.now image) is left

pub stop_within : (left : Image) (old new : Moments) (file now : List ℕ) → LeadTo old.now.synced old.now.writes file → now ≡ left_by left old.now file → new ≡ after_sync old now → Within (images_at old.now) (images_at new.now)
stop_within left old new file now lead is moments = λ image here.
    subst (images_at old.now) (sym (same_image new old now image moments here ∙ is)) (left_is_image left old.now file lead)

pub stop_follows : (left : Image) (old new : Moments) (file now bytes : List ℕ) (at : ℕ) → at ≤ length file → LeadTo old.now.synced old.now.writes file
    → now ≡ left_by left (written_at old.now file at (length bytes)) (overwritten file at bytes) → new ≡ after_sync old now → ImagesFollow (IsTorn at (length bytes)) (images_at old.now) (images_at new.now)
stop_follows left old new file now bytes at inside lead is moments = λ image here.
    let torn = written_is_torn file (overwritten file at bytes) bytes at inside refl in
    let moment : Moment = written_at old.now file at (length bytes) in
    subst (images_at moment) (sym (same_image new old now image moments here ∙ is)) (left_is_image left moment (overwritten file at bytes) (torn, lead))
