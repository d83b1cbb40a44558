-- A list of media, of which one is read or changed.
use Rattle.std.proofs.Common.{◌≡◌, ℕ, ◌<◌, List, length, map, get_or, set, sym, ap, subst, ◌∙◌}
use Rattle.std.proofs.lemmas.List.{map-set, get_or-map, get_or-set_same, length-map}
use Rattle.rbc_disk.specs.Disk.{Disk, disk_at, no_disk}

pub disk_at-map : {A : Type 0} (f : A → Disk) (xs : List A) (i : ℕ) (x : A) → i < length xs → x ≡ get_or xs i x → disk_at (map f xs) i ≡ f x
disk_at-map f xs i x h e = get_or-map f xs i x no_disk h ∙ ap f (sym e)

pub map-put : {A B : Type 0} (f : A → B) (xs : List A) (i : ℕ) (y : A) (d : B) → f y ≡ d → map f (set xs i y) ≡ set (map f xs) i d
map-put f xs i y d e = map-set f xs i y ∙ ap (λ z. set (map f xs) i z) e

pub count_at-map : {A : Type 0} (f : A → ℕ) (xs : List A) (i : ℕ) (x : A) → i < length xs → x ≡ get_or xs i x → get_or (map f xs) i 0 ≡ f x
count_at-map f xs i x h e = get_or-map f xs i x 0 h ∙ ap f (sym e)

pub count_at-put : {A : Type 0} (f : A → ℕ) (xs : List A) (i : ℕ) (y : A) → i < length xs → get_or (map f (set xs i y)) i 0 ≡ f y
count_at-put f xs i y h =
    ap (λ z. get_or z i 0) (map-set f xs i y) ∙ get_or-set_same (map f xs) i (f y) 0 (subst (λ n. i < n) (sym (length-map xs f)) h)

pub counts-put : {A : Type 0} (f : A → ℕ) (xs : List A) (i : ℕ) (y : A) → i < length xs → map f (set xs i y) ≡ set (map f xs) i (get_or (map f (set xs i y)) i 0)
counts-put f xs i y h = map-put f xs i y (get_or (map f (set xs i y)) i 0) (sym (count_at-put f xs i y h))

pub disk_at-put : {A : Type 0} (f : A → Disk) (xs : List A) (i : ℕ) (y : A) → i < length xs → disk_at (map f (set xs i y)) i ≡ f y
disk_at-put f xs i y h =
    ap (λ z. get_or z i no_disk) (map-set f xs i y) ∙ get_or-set_same (map f xs) i (f y) no_disk (subst (λ n. i < n) (sym (length-map xs f)) h)

pub disks-put : {A : Type 0} (f : A → Disk) (xs : List A) (i : ℕ) (y : A) → i < length xs → map f (set xs i y) ≡ set (map f xs) i (disk_at (map f (set xs i y)) i)
disks-put f xs i y h = map-put f xs i y (disk_at (map f (set xs i y)) i) (sym (disk_at-put f xs i y h))

pub ruleset media_steps = (disk_at-map, disk_at-put, disks-put, count_at-map, count_at-put, counts-put)
