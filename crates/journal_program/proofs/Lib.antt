mod Current
mod Numbers
