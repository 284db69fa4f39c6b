-- What a reader takes out of its bytes, and what of them takes memory.
use Rattle.std.proofs.Common.{◌≡◌, ℕ, ◌-◌, ◌≤◌, Bool, List, ◌++◌, length, take, drop, ℤ, pos, Ok, refl, sym, ap, subst, ◌∙◌, arith, append_assoc}
use Rattle.std.proofs.lemmas.List.{length-append, take-append-drop, length-drop}
use Rattle.std.proofs.Math.Seq.{drop-append_seam}
use Rattle.bep_frames.specs.declared.frame.Frame.{Frame}
use Rattle.bep_messages.specs.declared.header.Header.{Header}
use Rattle.bep_messages.specs.Protocol.{hello_table, header_table}
use Rattle.bep_messages.specs.Structs.{header}
use Rattle.bep_messages.specs.Values.{decoded}
use Rattle.bep_frames.specs.Found.{IsCut16, TakesMemory16, TakesMemory32}
use Rattle.bep_frames.specs.Grammar.{magic, max_message_bytes, number32, Begins}
use Rattle.bep_frames.specs.Memory.{BodyTakesMemory, HelloTakesMemory, MessageTakesMemory}
use Rattle.bep_frames.specs.Reading.{Whole, frame_at}
use Rattle.bep_frames.proofs.Sound.{IsRight, step_right}

pub begins_whole : (due : Bool) (bytes : List ℕ) (f : Frame) (rest : List ℕ) → frame_at due bytes ≡ Whole f rest → Begins due bytes f rest
begins_whole due bytes f rest e = subst (IsRight due bytes) e (step_right due bytes)

rest_is : (items front rest : List ℕ) (n : ℕ) → items ≡ front ++ rest → n ≡ length items - length rest → drop n items ≡ rest
rest_is items front rest n e is =
    let count : n ≡ length front = omega (arith, is, ap length e, length-append front rest) in
    ap (λ (k : ℕ). drop k items) count ∙ ap (drop (length front)) e ∙ drop-append_seam front rest

pub taken_out : (due : Bool) (items bytes : List ℕ) (start left n : ℕ) (f : Frame) (rest : List ℕ) → bytes ≡ drop start items → length rest ≡ left → frame_at due bytes ≡ Whole f rest → n ≡ length items - left → drop n items ≡ rest
taken_out due items bytes start left n f rest at len e is =
    let b = begins_whole due bytes f rest e in
    let all : items ≡ (take start items ++ b.spelling) ++ rest
    = sym (take-append-drop start items) ∙ ap (λ (l : List ℕ). take start items ++ l) (sym at ∙ b.split) ∙ sym (append_assoc (take start items) b.spelling rest) in
    rest_is items (take start items ++ b.spelling) rest n all (is ∙ ap (λ (k : ℕ). length items - k) (sym len))

pub left_within : (due : Bool) (items bytes : List ℕ) (start left : ℕ) (f : Frame) (rest : List ℕ) → bytes ≡ drop start items → length rest ≡ left → frame_at due bytes ≡ Whole f rest → left ≤ length items
left_within due items bytes start left f rest at len e =
    let b = begins_whole due bytes f rest e in
    omega (arith, len, ap length b.split, length-append b.spelling rest, ap length at, length-drop start items)

-- ---- memory

pub hello_takes : (bytes front after : List ℕ) → bytes ≡ front ++ after → front ≡ magic → TakesMemory16 hello_table after → HelloTakesMemory bytes
hello_takes bytes front after e is t =
    record {
      sized = t.cut.sized;
      body = t.held;
      after = t.rest;
      split = e ∙ ap (λ (l : List ℕ). l ++ after) is ∙ ap (λ (l : List ℕ). magic ++ l) t.cut.split;
      sized_is = t.cut.sized_is;
      takes = t.takes;
    }

pub body_after_takes : (kind : ℤ) (bytes size after body rest : List ℕ) → bytes ≡ size ++ after → length size ≡ 4 → after ≡ body ++ rest → length body ≡ number32 size → length body ≤ max_message_bytes → BodyTakesMemory kind body → TakesMemory32 kind bytes
body_after_takes kind bytes size after body rest e w e' w' short takes =
    record {
      sized = size ++ body;
      body = body;
      after = rest;
      split = e ∙ ap (λ (l : List ℕ). size ++ l) e' ∙ sym (append_assoc size body rest);
      sized_is = record { size = size; split = refl; width = w; size_is = w' };
      short = short;
      takes = takes;
    }

pub message_takes : (bytes text rest : List ℕ) (h : Header) → IsCut16 bytes text rest → decoded header_table header text ≡ Ok h → h.compression ≡ pos 0 → TakesMemory32 h.kind rest → MessageTakesMemory bytes
message_takes bytes text rest h cut reads plain t =
    record {
      says = h;
      sized = t.sized;
      body = t.body;
      after = t.after;
      header = record { sized = cut.sized; text = text; split = cut.split ∙ ap (λ (l : List ℕ). cut.sized ++ l) t.split; sized_is = cut.sized_is; reads = reads };
      plain = plain;
      sized_is = t.sized_is;
      short = t.short;
      takes = t.takes;
    }
