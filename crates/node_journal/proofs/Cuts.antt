-- A journal that was cut is read as a beginning of its frames.
use Rattle.std.proofs.Common.{◌≡◌, ℕ, zero, suc, ◌+◌, ◌-◌, ◌<◌, ◌≤◌, Bool, true, false, List, [], ◌∷◌, ◌++◌, length, take, drop, refl, sym, ap, subst, ◌∙◌, inl, inr, arith, append_assoc}
use Rattle.std.specs.Prelude.{◌≢◌, ◌==◌, ◌⊎◌, bytes_eq, nat_lt, if◌then◌else◌}
use Rattle.std.specs.Int.{w32, w64, to_be_bytes}
use Rattle.std.specs.List.{AllByRecursion}
use Rattle.std.proofs.lemmas.Bool.{cases_lt}
use Rattle.std.proofs.lemmas.Bool.Decides.{nat_tests}
use Rattle.std.proofs.lemmas.List.{length-append, length-take, length-take-le}
use Rattle.std.proofs.lemmas.Nat.{from_be_bytes-to_be_bytes_4}
use Rattle.std.proofs.lemmas.Slice.Eq.{bytes_eq-Decides}
use Rattle.std.proofs.Math.Seq.{drop-append_seam, take-append_seam, take-append-add}
use Rattle.sha2.specs.Sha256.{sha256}
use Rattle.sha2.proofs.Facts256.{length-sha256}
use Rattle.node_journal.specs.declared.found.Found.{Found}
use Rattle.node_journal.specs.declared.found.Found.TheVariants.{Cut, NoFrame, Framed}
use Rattle.node_journal.specs.declared.frame.Frame.{Frame}
use Rattle.node_journal.specs.declared.kept.JournalEnd.{JournalEnd}
use Rattle.node_journal.specs.declared.kept.JournalEnd.TheVariants.{Whole, Torn, Broken}
use Rattle.node_journal.specs.declared.kept.KeptFrames.{KeptFrames}
use Rattle.node_journal.specs.declared.header.JournalHeader.{JournalHeader}
use Rattle.node_journal.specs.Cuts.{IsBeginning, front_of, up_to_whole}
use Rattle.node_journal.specs.Format.{HasDigests, IsWritable, body_bytes, checksum, frame_body, frame_bytes, frames_bytes, header_bytes, header_len, journal_bytes}
use Rattle.node_journal.specs.Reading.{Reads, Ends, Goes, body_at, counted, end_of, frame_at, framed, front_len, nothing, number32, sized_at, torn, with_first}
use Rattle.node_journal.proofs.Founds.{front-there}
use Rattle.node_journal.proofs.Headers.{after-header, has-header, header-long}

checksum-long : (header : List ℕ) (offset : ℕ) (body : List ℕ) → length (checksum header offset body) ≡ 8
unfolding checksum
checksum-long header offset body =
    let m = header ++ to_be_bytes w64 offset ++ body in
    length-take-le 8 (sha256 m) (omega (arith, length-sha256 m))

some-long : (l : List ℕ) → l ≢ [] → 0 < length l
some-long [] h = absurd (h refl)
some-long (x ∷ l) h = omega arith

-- ---- one frame

short : (header : List ℕ) (offset : ℕ) (bytes : List ℕ) → length bytes < front_len → frame_at header offset bytes ≡ Cut
unfolding frame_at
short header offset bytes lt = grind arith

placed : (header : List ℕ) (offset : ℕ) (size sum after : List ℕ) → length size ≡ 4 → length sum ≡ 8 → frame_at header offset (size ++ (sum ++ after)) ≡ sized_at header offset (number32 size) sum after
placed header offset size sum after four eight =
    let bytes = size ++ (sum ++ after) in
    let there : front_len ≤ length bytes = omega (arith, length-append size (sum ++ after), length-append sum after) in
    let first : take 4 bytes ≡ size = subst (λ (n : ℕ). take n bytes ≡ size) four (take-append_seam size (sum ++ after)) in
    let rest : drop 4 bytes ≡ sum ++ after = subst (λ (n : ℕ). drop n bytes ≡ sum ++ after) four (drop-append_seam size (sum ++ after)) in
    let second : take 8 (drop 4 bytes) ≡ sum = ap (take 8) rest ∙ subst (λ (n : ℕ). take n (sum ++ after) ≡ sum) eight (take-append_seam sum after) in
    let third : drop 8 (drop 4 bytes) ≡ after = ap (drop 8) rest ∙ subst (λ (n : ℕ). drop n (sum ++ after) ≡ after) eight (drop-append_seam sum after) in
    front-there header offset bytes there ∙ λ i. sized_at header offset (number32 (first i)) (second i) (third i)

whole-chosen : (z s b : Bool) (x : Found) → z ≡ false → s ≡ false → b ≡ true → (if z then NoFrame else if s then Cut else if b then x else NoFrame) ≡ x
whole-chosen z s b x e f g = rw (e, f, g) refl

cut-chosen : (z s : Bool) (x : Found) → z ≡ false → s ≡ true → (if z then NoFrame else if s then Cut else x) ≡ Cut
cut-chosen z s x e f = rw (e, f) refl

sized-whole : (header : List ℕ) (offset : ℕ) (body rest : List ℕ) → 0 < length body → sized_at header offset (length body) (checksum header offset body) (body ++ rest) ≡ body_at body
unfolding sized_at
sized-whole header offset body rest some =
    let is = take-append_seam body rest in
    let zero : (length body == 0) ≡ false = grind (arith, nat_tests) in
    let enough : length body ≤ length (body ++ rest) = omega (arith, length-append body rest) in
    let long : nat_lt (length (body ++ rest)) (length body) ≡ false = grind (arith, nat_tests) in
    let same : bytes_eq (checksum header offset (take (length body) (body ++ rest))) (checksum header offset body) ≡ true
    = (bytes_eq-Decides (checksum header offset (take (length body) (body ++ rest))) (checksum header offset body)).1 (ap (checksum header offset) is) in
    whole-chosen (length body == 0) (nat_lt (length (body ++ rest)) (length body)) (bytes_eq (checksum header offset (take (length body) (body ++ rest))) (checksum header offset body)) (body_at (take (length body) (body ++ rest))) zero long same
    ∙ ap body_at is

sized-cut : (header : List ℕ) (offset len : ℕ) (sum after : List ℕ) → length after < len → sized_at header offset len sum after ≡ Cut
unfolding sized_at
sized-cut header offset len sum after lt =
    let zero : (len == 0) ≡ false = grind (arith, nat_tests) in
    let less : nat_lt (length after) len ≡ true = grind (arith, nat_tests) in
    cut-chosen (len == 0) (nat_lt (length after) len) (if bytes_eq (checksum header offset (take len after)) sum then body_at (take len after) else NoFrame) zero less

four : (n : ℕ) → length (to_be_bytes w32 n) ≡ 4
four n = refl

front-long : (header : List ℕ) (offset : ℕ) (body : List ℕ) → length (body_bytes header offset body) ≡ front_len + length body
front-long header offset body =
    omega (arith, four (length body), checksum-long header offset body, length-append (to_be_bytes w32 (length body)) (checksum header offset body ++ body), length-append (checksum header offset body) body)

body-read : (f : Frame) → IsWritable f → body_at (frame_body f) ≡ Framed f (front_len + length (frame_body f))
unfolding body_at
body-read f w = ap (framed (length (frame_body f))) w.again

module _ (header : List ℕ) (offset : ℕ) where
  nested : (f : Frame) (rest : List ℕ) → frame_bytes header offset f ++ rest ≡ to_be_bytes w32 (length (frame_body f)) ++ (checksum header offset (frame_body f) ++ (frame_body f ++ rest))
  nested f rest =
      append_assoc (to_be_bytes w32 (length (frame_body f))) (checksum header offset (frame_body f) ++ frame_body f) rest
      ∙ ap (λ (l : List ℕ). to_be_bytes w32 (length (frame_body f)) ++ l) (append_assoc (checksum header offset (frame_body f)) (frame_body f) rest)

  -- a frame that was written is read, whatever follows it
  pub frame-read : (f : Frame) (rest : List ℕ) → IsWritable f → frame_at header offset (frame_bytes header offset f ++ rest) ≡ Framed f (length (frame_bytes header offset f))
  frame-read f rest w =
      let body = frame_body f in
      let sum = checksum header offset body in
      ap (frame_at header offset) (nested f rest)
      ∙ placed header offset (to_be_bytes w32 (length body)) sum (body ++ rest) (four (length body)) (checksum-long header offset body)
      ∙ ap (λ (n : ℕ). sized_at header offset n sum (body ++ rest)) (from_be_bytes-to_be_bytes_4 (length body) w.fits)
      ∙ sized-whole header offset body rest (some-long body w.some)
      ∙ body-read f w
      ∙ ap (Framed f) (sym (front-long header offset body))

  cut-by : (f : Frame) (rest : List ℕ) (n : ℕ) → IsWritable f → n < length (frame_bytes header offset f) → (n < front_len) ⊎ (front_len ≤ n) → frame_at header offset (take n (frame_bytes header offset f ++ rest)) ≡ Cut
  cut-by f rest n w lt (inl few) = short header offset (take n (frame_bytes header offset f ++ rest)) (omega (arith, few, length-take n (frame_bytes header offset f ++ rest)))
  cut-by f rest n w lt (inr many) =
      let body = frame_body f in
      let size = to_be_bytes w32 (length body) in
      let sum = checksum header offset body in
      let m : ℕ = n - front_len in
      let after = take m (body ++ rest) in
      let eight = checksum-long header offset body in
      let is : n ≡ length size + (length sum + m) = omega (arith, many, eight, four (length body)) in
      let parts : take n (frame_bytes header offset f ++ rest) ≡ size ++ (sum ++ after)
      = ap (take n) (nested f rest) ∙ ap (λ (k : ℕ). take k (size ++ (sum ++ (body ++ rest)))) is
      ∙ take-append-add size (sum ++ (body ++ rest)) (length sum + m)
      ∙ ap (λ (l : List ℕ). size ++ l) (take-append-add sum (body ++ rest) m) in
      let less : length after < length body = omega (arith, lt, many, front-long header offset body, length-take m (body ++ rest)) in
      ap (frame_at header offset) parts
      ∙ placed header offset size sum after (four (length body)) eight
      ∙ ap (λ (k : ℕ). sized_at header offset k sum after) (from_be_bytes-to_be_bytes_4 (length body) w.fits)
      ∙ sized-cut header offset (length body) sum after less

  -- less of it is less than a frame
  pub frame-cut : (f : Frame) (rest : List ℕ) (n : ℕ) → IsWritable f → n < length (frame_bytes header offset f) → frame_at header offset (take n (frame_bytes header offset f ++ rest)) ≡ Cut
  frame-cut f rest n w lt = cut-by f rest n w lt (cases_lt n front_len)

-- ---- what counts

frames-chosen : (b : Bool) (f : Frame) (len offset : ℕ) (end : JournalEnd) → let r : KeptFrames = if b then record { frames = f ∷ []; len = len; end = end } else nothing offset (torn end) in r.frames ≡ (if b then f ∷ [] else [])
frames-chosen true f len offset end = refl
frames-chosen false f len offset end = refl

counted-frames : (f : Frame) (offset size : ℕ) (k : KeptFrames) (fs : List Frame) → (counted f offset size k fs).frames ≡ front_of f fs
counted-frames f offset size k [] = frames-chosen f.is_whole f (offset + size) offset k.end
counted-frames f offset size k (g ∷ gs) = refl

torn-fine : (end : JournalEnd) → end ≢ Broken → torn end ≢ Broken
torn-fine Whole h = λ e. cc
torn-fine Torn h = λ e. cc
torn-fine Broken h = absurd (h refl)

end-chosen : (b : Bool) (f : Frame) (len offset : ℕ) (end : JournalEnd) → end ≢ Broken → let r : KeptFrames = if b then record { frames = f ∷ []; len = len; end = end } else nothing offset (torn end) in r.end ≢ Broken
end-chosen true f len offset end h = h
end-chosen false f len offset end h = torn-fine end h

counted-end : (f : Frame) (offset size : ℕ) (k : KeptFrames) (fs : List Frame) → k.end ≢ Broken → (counted f offset size k fs).end ≢ Broken
counted-end f offset size k [] h = end-chosen f.is_whole f (offset + size) offset k.end h
counted-end f offset size k (g ∷ gs) h = h

end-fine : (bytes : List ℕ) → end_of bytes ≢ Broken
end-fine [] = λ e. cc
end-fine (b ∷ bytes) = λ e. cc

module _ (header : List ℕ) where
  len-chosen : (b : Bool) (f : Frame) (offset : ℕ) (end : JournalEnd) →
      let r : KeptFrames = if b then record { frames = f ∷ []; len = offset + length (frame_bytes header offset f); end = end } else nothing offset (torn end) in
      r.len ≡ offset + length (frames_bytes header offset r.frames)
  len-chosen true f offset end = omega (arith, length-append (frame_bytes header offset f) [])
  len-chosen false f offset end = omega arith

  counted-len : (f : Frame) (offset : ℕ) (k : KeptFrames) (fs : List Frame) → let size = length (frame_bytes header offset f) in
      k.len ≡ (offset + size) + length (frames_bytes header (offset + size) fs) →
      (counted f offset size k fs).len ≡ offset + length (frames_bytes header offset (counted f offset size k fs).frames)
  counted-len f offset k [] e = len-chosen f.is_whole f offset k.end
  counted-len f offset k (g ∷ gs) e =
      let size = length (frame_bytes header offset f) in
      omega (arith, e, length-append (frame_bytes header offset f) (frames_bytes header (offset + size) (g ∷ gs)))

  -- what is read of the first so many bytes of these frames
  pub record IsCut (frames : List Frame) (offset n : ℕ) : Type 0 where
    pub count : ℕ
    pub read : KeptFrames
    pub reads : Reads header offset (take n (frames_bytes header offset frames)) read
    pub is : read.frames ≡ up_to_whole (take count frames)
    pub len : read.len ≡ offset + length (frames_bytes header offset read.frames)
    pub end : read.end ≢ Broken
    pub enough : (k : ℕ) → k ≤ length frames → length (frames_bytes header offset (take k frames)) ≤ n → k ≤ count

  none-fits : (f : Frame) (fs : List Frame) (offset n k : ℕ) → n < length (frame_bytes header offset f) → length (frames_bytes header offset (take k (f ∷ fs))) ≤ n → k ≤ 0
  none-fits f fs offset n zero lt fits = omega arith
  none-fits f fs offset n (suc k) lt fits =
      let size = length (frame_bytes header offset f) in
      absurd (omega (arith, lt, fits, length-append (frame_bytes header offset f) (frames_bytes header (offset + size) (take k fs))))

  more-fit : (f : Frame) (fs : List Frame) (offset n count k : ℕ) → let size = length (frame_bytes header offset f) in size ≤ n →
      ((j : ℕ) → j ≤ length fs → length (frames_bytes header (offset + size) (take j fs)) ≤ n - size → j ≤ count) →
      k ≤ suc (length fs) → length (frames_bytes header offset (take k (f ∷ fs))) ≤ n → k ≤ suc count
  more-fit f fs offset n count zero le before few fits = omega arith
  more-fit f fs offset n count (suc k) le before few fits =
      let size = length (frame_bytes header offset f) in
      let less : k ≤ length fs = omega (arith, few) in
      let fit : length (frames_bytes header (offset + size) (take k fs)) ≤ n - size = omega (arith, fits, le, length-append (frame_bytes header offset f) (frames_bytes header (offset + size) (take k fs))) in
      let more : k ≤ count = before k less fit in
      omega (arith, more)

  no-frames : (offset n : ℕ) → IsCut [] offset n
  no-frames offset n =
      let bytes : List ℕ = take n [] in
      record {
        count = 0;
        read = nothing offset (end_of bytes);
        reads = Ends offset bytes (short header offset bytes (omega (arith, length-take {A = ℕ} n [])));
        is = refl;
        len = omega arith;
        end = end-fine bytes;
        enough = λ k few fits. few;
      }

  no-frame : (f : Frame) (fs : List Frame) (offset n : ℕ) → IsWritable f → n < length (frame_bytes header offset f) → IsCut (f ∷ fs) offset n
  no-frame f fs offset n w lt =
      let others = frames_bytes header (offset + length (frame_bytes header offset f)) fs in
      let bytes = take n (frame_bytes header offset f ++ others) in
      record {
        count = 0;
        read = nothing offset (end_of bytes);
        reads = Ends offset bytes (frame-cut header offset f others n w lt);
        is = refl;
        len = omega arith;
        end = end-fine bytes;
        enough = λ k few fits. none-fits f fs offset n k lt fits;
      }

  one-frame : (f : Frame) (fs : List Frame) (offset n : ℕ) → IsWritable f → let size = length (frame_bytes header offset f) in size ≤ n → IsCut fs (offset + size) (n - size) → IsCut (f ∷ fs) offset n
  one-frame f fs offset n w le cut =
      let bytes = frame_bytes header offset f in
      let size = length bytes in
      let others = frames_bytes header (offset + size) fs in
      let rest = take (n - size) others in
      let is : n ≡ size + (n - size) = omega (arith, le) in
      let parts : take n (bytes ++ others) ≡ bytes ++ rest = ap (λ (k : ℕ). take k (bytes ++ others)) is ∙ take-append-add bytes others (n - size) in
      let behind : Reads header (offset + size) (drop size (bytes ++ rest)) cut.read = subst (λ (l : List ℕ). Reads header (offset + size) l cut.read) (sym (drop-append_seam bytes rest)) cut.reads in
      let read = with_first f offset size cut.read in
      record {
        count = suc cut.count;
        read = read;
        reads = subst (λ (l : List ℕ). Reads header offset l read) (sym parts) (Goes offset (bytes ++ rest) f size cut.read (frame-read header offset f rest w) behind);
        is = counted-frames f offset size cut.read cut.read.frames ∙ ap (front_of f) cut.is;
        len = counted-len f offset cut.read cut.read.frames cut.len;
        end = counted-end f offset size cut.read cut.read.frames cut.end;
        enough = λ k few fits. more-fit f fs offset n cut.count k le cut.enough few fits;
      }

  by-size : (f : Frame) (fs : List Frame) (offset n : ℕ) → IsWritable f → let size = length (frame_bytes header offset f) in IsCut fs (offset + size) (n - size) → (n < size) ⊎ (size ≤ n) → IsCut (f ∷ fs) offset n
  by-size f fs offset n w cut (inl lt) = no-frame f fs offset n w lt
  by-size f fs offset n w cut (inr le) = one-frame f fs offset n w le cut

  pub cut-frames : (fs : List Frame) (offset n : ℕ) → AllByRecursion IsWritable fs → IsCut fs offset n
  cut-frames [] offset n all = no-frames offset n
  cut-frames (f ∷ fs) offset n all =
      let size = length (frame_bytes header offset f) in
      by-size f fs offset n all.0 (cut-frames fs (offset + size) (n - size) all.1) (cases_lt n size)

-- ---- the whole

pub beginning : (h : JournalHeader) (synced more : List Frame) (n : ℕ) → HasDigests h → AllByRecursion IsWritable (synced ++ more) → length (journal_bytes h synced) ≤ n → IsBeginning h (synced ++ more) (length synced) (take n (journal_bytes h (synced ++ more)))
beginning h synced more n d all le =
    let header = header_bytes h in
    let frames = synced ++ more in
    let m : ℕ = n - header_len in
    let long = header-long h d in
    let bytes = frames_bytes header header_len frames in
    let room : length (header ++ frames_bytes header header_len synced) ≡ length header + length (frames_bytes header header_len synced) = length-append header (frames_bytes header header_len synced) in
    let is : n ≡ length header + m = omega (arith, le, room, long) in
    let parts : take n (header ++ bytes) ≡ header ++ take m bytes = ap (λ (k : ℕ). take k (header ++ bytes)) is ∙ take-append-add header bytes m in
    let cut = cut-frames header frames header_len m all in
    let behind : drop header_len (take n (header ++ bytes)) ≡ take m bytes = ap (drop header_len) parts ∙ after-header h (take m bytes) d in
    let first : take (length synced) frames ≡ synced = take-append_seam synced more in
    let fits : length (frames_bytes header header_len (take (length synced) frames)) ≤ m
    = subst (λ (l : List Frame). length (frames_bytes header header_len l) ≤ m) (sym first) (omega (arith, le, room, long)) in
    record {
      header = has-header h (take n (header ++ bytes)) (take m bytes) d parts;
      count = cut.count;
      enough = cut.enough (length synced) (omega (arith, length-append synced more)) fits;
      read = cut.read;
      reads = subst (λ (l : List ℕ). Reads header header_len l cut.read) (sym behind) cut.reads;
      is = cut.is;
      len = cut.len ∙ ap (λ (k : ℕ). k + length (frames_bytes header header_len cut.read.frames)) (sym long) ∙ sym (length-append header (frames_bytes header header_len cut.read.frames));
      end = cut.end;
    }
