mod Beginning
mod Running
